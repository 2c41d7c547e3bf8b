use Rattle.std.proofs.Common.{refl}
use Rattle.vl_run.proofs.Designs.{names-design}
use Rattle.vl_run.proofs.outer.room_of.Goals as goal

pub returns-clause-names : goal.returns-clause-names
returns-clause-names c = names-design c.args.design.now _ _ _ c.as_slice.ensures refl c.as_slice-2.ensures
