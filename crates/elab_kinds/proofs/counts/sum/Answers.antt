use Rattle.elab_plain.specs.vl_flat.specs.Environments.{plus}
use Rattle.elab_kinds.specs.Sized.{counts_of}
use Rattle.elab_kinds.proofs.counts.sum.Goals as goal

pub returns : goal.returns
returns c = c.in_ok-exactly.ensures (plus (counts_of c.args.a) (counts_of c.args.b)) c.plus.ensures
