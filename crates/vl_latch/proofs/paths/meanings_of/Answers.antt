use Rattle.vl_latch.proofs.Designs.{names-design}
use Rattle.vl_latch.proofs.paths.meanings_of.Goals as goal

pub returns-clause-names : goal.returns-clause-names
returns-clause-names c = names-design c.args.design.now c.as_slice.result.now c.args.locals.now c.as_slice-2.result.now c.as_slice.ensures c.as_slice-2.ensures
