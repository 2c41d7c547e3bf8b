use Rattle.elab_kinds.specs.Sized.{counts_of}
use Rattle.elab_kinds.proofs.Keeping.{kept-exactly}
use Rattle.elab_kinds.proofs.counts.exactly.Goals as goal

pub returns : goal.returns
returns c = λ b h. kept-exactly (counts_of c.args.all) b h c.if-all-eq4294967295.false c.if-all-eq4294967295-2.false
