use Rattle.vl_bits.proofs.Sounds.{names-design}
use Rattle.cell_level.proofs.level.meanings_of.Goals as goal

pub returns : goal.returns
returns c = record { names = names-design c.args.design.now c.as_slice.result.now c.as_slice-2.result.now c.as_slice.ensures c.as_slice-2.ensures }
