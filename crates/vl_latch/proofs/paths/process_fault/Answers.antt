use Rattle.vl_bits.specs.Seen.{names_seen}
use Rattle.vl_latch.proofs.Designs.{process-first}
use Rattle.vl_latch.proofs.paths.process_fault.Goals as goal

pub returns-clause-first : goal.returns-clause-first
returns-clause-first c =
    rw c.place_if.ensures (process-first c.args.design.now (names_seen c.meanings_of-m.result) c.as_slice.result.now c.args.process.now c.in_ok-partly.partly c.meanings_of-m.ensures.names c.as_slice.ensures
    (c.is_block.ensures.0 c.if-not-is_block.false) c.in_ok-partly.ensures.partly)
