use Rattle.std.proofs.Common.{arith}
use Rattle.host_run.proofs.Beginnings.{begins}
use Rattle.host_run.proofs.Tellable.{few, tenants_count}
use Rattle.host_run.proofs.prepared.judged_and_begun.Goals as goal

pub begin_runs-requires-clause-ready : goal.begin_runs-requires-clause-ready
begin_runs-requires-clause-ready c =
    let s = c.args.script.now in
    let p = c.in_ok-judged.judged in
    let j = c.in_ok-judged.ensures in
    c.those_that_run_are_ready.ensures s.fabrics j.0 p.refusals.items p.readies.items j.2

pub begin_runs-requires-clause-few : goal.begin_runs-requires-clause-few
begin_runs-requires-clause-few c =
    let s = c.args.script.now in
    let p = c.in_ok-judged.judged in
    let j = c.in_ok-judged.ensures in
    omega (arith, few s.fabrics j.0 p.refusals.items p.readies.items j.2, tenants_count s.tenants c.args.loaded.items j.0 j.1, c.requires.limits.tenants)

pub returns : goal.returns
returns c =
    let s = c.args.script.now in
    let p = c.in_ok-judged.judged in
    let j = c.in_ok-judged.ensures in
    let e = c.begin_runs.ensures in
    begins s c.args.loaded.items j.0 p.refusals.items p.readies.items j.1 j.2 c.begin_runs.result e.refusals e.labels e.starts e.begun e.room
