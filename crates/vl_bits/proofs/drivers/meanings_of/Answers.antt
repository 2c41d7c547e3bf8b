use Rattle.vl_bits.proofs.Sounds.{names-design}
use Rattle.vl_bits.proofs.drivers.meanings_of.Goals as goal

pub returns-clause-names : goal.returns-clause-names
returns-clause-names c = names-design c.args.design.now c.as_slice.result.now c.as_slice-2.result.now c.as_slice.ensures c.as_slice-2.ensures
