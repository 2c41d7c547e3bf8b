use Rattle.std.proofs.Common.{subst}
use Rattle.vl_runs.proofs.Onward.{checked_quiet}
use Rattle.sub_nodes.specs.Code.{table_of}
use Rattle.sub_nodes.proofs.Boundaries.{each_boundary}
use Rattle.sub_runs.specs.Nets.{nets_of, RestIsZero}
use Rattle.sub_runs.proofs.Behind.{goes_on}
use Rattle.sub_runs.proofs.again_laws.a_resumed_run_goes_on.Goals as goal

pub returns : goal.returns
returns c = λ o order k q can fine x f.
    let runs = c.the_table_of_a_checked_design_can_run.ensures o order can.checked can.unrolled can.ordered fine in
    let there = each_boundary o (table_of o.flat) (nets_of o.flat o.files order) k q runs (checked_quiet o.flat can.checked) x in
    let tidy = c.a_run_of_a_table_stays_tidy.ensures.all o order q.state.count there.stage can.checked can.ordered fine can.nets there.comes in
    goes_on o order can fine k q x f (subst (λ s. RestIsZero o.flat s.values) there.same tidy.rest)
