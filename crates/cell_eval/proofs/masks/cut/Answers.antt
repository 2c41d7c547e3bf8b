use Rattle.std.proofs.lemmas.Nat.{and_mask}
use Rattle.cell_eval.proofs.masks.cut.Goals as goal

pub returns : goal.returns
returns c = rw c.mask.ensures (and_mask c.args.value c.args.width)
