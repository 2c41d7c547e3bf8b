use Rattle.std.proofs.lemmas.Nat.{and_mask}
use Rattle.vl_base.proofs.bits.lowest.Goals as goal

pub returns : goal.returns
returns c = rw c.ones.ensures (and_mask c.args.value c.args.width)
