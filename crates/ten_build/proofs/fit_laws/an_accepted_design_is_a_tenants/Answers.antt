use Rattle.vl_loops.specs.vl_design.specs.Plainly as plain
use Rattle.vl_loops.specs.Unroll.{unrolled_flat}
use Rattle.ten_build.proofs.Writers.{others}
use Rattle.ten_build.proofs.Tenants.{tenants}
use Rattle.ten_build.proofs.fit_laws.an_accepted_design_is_a_tenants.Goals as goal

pub returns : goal.returns
returns c = λ d a fit own w s few.
    let functions = c.functions_of_accepted_designs_can_be_compiled_to_cells.ensures d fit own s.accepted in
    let nets = (c.computed_signals_are_written_one_by_one.ensures (unrolled_flat (plain.flat d))).1 (others d fit w s.accepted) in
    tenants d fit w a s functions nets (c.unrolled_designs_write_no_others.ensures d a fit s) few
