use Rattle.ten_core.proofs.Resting.{other, rests-at, rest-counts, rest-ends}
use Rattle.ten_core.proofs.run_laws.a_run_at_rest_is_at_a_boundary.Goals as goal

pub returns-clause-boundary : goal.returns-clause-boundary
returns-clause-boundary c o order n i r rest =
    let can = c.the_table_of_a_checked_design_can_run.ensures (other o order n i r rest) order r.checked r.unrolled r.ordered r.start in
    rests-at o order n i r rest can

pub returns-clause-count : goal.returns-clause-count
returns-clause-count c o order n i r rest =
    let can = c.the_table_of_a_checked_design_can_run.ensures (other o order n i r rest) order r.checked r.unrolled r.ordered r.start in
    rest-counts o order n i r rest can

pub returns-clause-ends : goal.returns-clause-ends
returns-clause-ends c o order n i q end r rest at why =
    let can = c.the_table_of_a_checked_design_can_run.ensures (other o order n i r rest) order r.checked r.unrolled r.ordered r.start in
    rest-ends o order n i r rest can q end at why
