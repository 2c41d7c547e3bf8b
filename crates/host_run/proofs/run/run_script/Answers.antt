use Rattle.host_run.proofs.Endings.{all_tellable, as_many_refusals, bays_ok, begin_on, count_ok, kept_ok, orders_may_be_given, outcome_on, report_ok}
use Rattle.host_run.proofs.Reports.{as_many_starts}
use Rattle.host_run.proofs.Reports.{are_answers}
use Rattle.host_run.proofs.run.run_script.Goals as goal

pub run_prepared-requires-clause-limits : goal.run_prepared-requires-clause-limits
run_prepared-requires-clause-limits g c = λ _ _. c.a_script_keeps_to_its_limits.ensures.limits c.requires.read.0 c.args.script.now c.requires.read.1

pub run_prepared-requires-clause-spelt : goal.run_prepared-requires-clause-spelt
run_prepared-requires-clause-spelt g c = λ _ _. c.words_of_a_script_are_spelt.ensures c.requires.read.0 c.args.script.now c.requires.read.1

pub run_prepared-requires-clause-count : goal.run_prepared-requires-clause-count
run_prepared-requires-clause-count g c = λ _ _.
    let p = c.in_ok-prepared.prepared in
    as_many_refusals c.args.script.now c.args.loaded.items p.refusals.items p.labels.items p.starts.items c.in_ok-prepared.ensures

pub run_prepared-requires-clause-running : goal.run_prepared-requires-clause-running
run_prepared-requires-clause-running g c = λ _ _.
    let p = c.in_ok-prepared.prepared in
    as_many_starts c.args.script.now c.args.loaded.items p.refusals.items p.labels.items p.starts.items c.in_ok-prepared.ensures

pub run_prepared-requires-clause-orders : goal.run_prepared-requires-clause-orders
run_prepared-requires-clause-orders g c = λ _ _.
    let p = c.in_ok-prepared.prepared in
    orders_may_be_given c.args.script.now c.args.loaded.items p.refusals.items p.labels.items p.starts.items c.in_ok-prepared.ensures c.given_orders_may_be_given.ensures

pub report_on-requires-clause-limits : goal.report_on-requires-clause-limits
report_on-requires-clause-limits g c = c.a_script_keeps_to_its_limits.ensures.limits c.requires.read.0 c.args.script.now c.requires.read.1

pub report_on-requires-clause-spelt : goal.report_on-requires-clause-spelt
report_on-requires-clause-spelt g c = c.words_of_a_script_are_spelt.ensures c.requires.read.0 c.args.script.now c.requires.read.1

pub report_on-requires-clause-count : goal.report_on-requires-clause-count
report_on-requires-clause-count g c =
    let s = c.args.script.now in
    let p = c.in_ok-prepared.prepared in
    let r = c.in_ok-ran.ran in
    let b = begin_on s c.args.loaded.items p.refusals.items r.refusals.items p.labels.items p.starts.items c.in_ok-ran.ensures.refusals c.in_ok-prepared.ensures in
    as_many_refusals s c.args.loaded.items r.refusals.items p.labels.items p.starts.items b

pub report_on-requires-clause-each : goal.report_on-requires-clause-each
report_on-requires-clause-each g c =
    let s = c.args.script.now in
    let p = c.in_ok-prepared.prepared in
    let r = c.in_ok-ran.ran in
    let b = begin_on s c.args.loaded.items p.refusals.items r.refusals.items p.labels.items p.starts.items c.in_ok-ran.ensures.refusals c.in_ok-prepared.ensures in
    let o = outcome_on s p.refusals.items r.refusals.items p.labels.items p.starts.items r.outcome c.in_ok-ran.ensures.refusals c.in_ok-ran.ensures.outcome in
    all_tellable s c.args.loaded.items r.refusals.items p.labels.items p.starts.items r.outcome b o c.kept_snapshots_are_named.ensures
    (c.words_of_a_script_are_spelt.ensures c.requires.read.0 s c.requires.read.1)

pub report_on-requires-clause-answers : goal.report_on-requires-clause-answers
report_on-requires-clause-answers g c =
    let s = c.args.script.now in
    let p = c.in_ok-prepared.prepared in
    let r = c.in_ok-ran.ran in
    let b = begin_on s c.args.loaded.items p.refusals.items r.refusals.items p.labels.items p.starts.items c.in_ok-ran.ensures.refusals c.in_ok-prepared.ensures in
    let o = outcome_on s p.refusals.items r.refusals.items p.labels.items p.starts.items r.outcome c.in_ok-ran.ensures.refusals c.in_ok-ran.ensures.outcome in
    are_answers s c.args.loaded.items r.refusals.items p.labels.items p.starts.items r.outcome b o c.tenants_end_at_their_costs.ensures

pub returns-clause-report : goal.returns-clause-report
returns-clause-report g c =
    let s = c.args.script.now in
    let p = c.in_ok-prepared.prepared in
    let r = c.in_ok-ran.ran in
    let b = begin_on s c.args.loaded.items p.refusals.items r.refusals.items p.labels.items p.starts.items c.in_ok-ran.ensures.refusals c.in_ok-prepared.ensures in
    let o = outcome_on s p.refusals.items r.refusals.items p.labels.items p.starts.items r.outcome c.in_ok-ran.ensures.refusals c.in_ok-ran.ensures.outcome in
    report_ok s c.args.loaded.items r.refusals.items p.labels.items p.starts.items r.outcome b o
    (c.a_script_keeps_to_its_limits.ensures.limits c.requires.read.0 s c.requires.read.1)
    c.tenants_are_read.ensures c.tenants_end_at_their_costs.ensures c.answers_do_as_orders.ensures
    c.replies_may_be_given.ensures c.orders_are_seen.ensures c.all_tenants_are_reported.ensures c.free_saves_may_be_made_in_any_order.ensures
    c.report_on.result c.report_on.ensures.says c.report_on.ensures.bays

pub returns-clause-bays : goal.returns-clause-bays
returns-clause-bays g c =
    let s = c.args.script.now in
    let p = c.in_ok-prepared.prepared in
    let r = c.in_ok-ran.ran in
    let b = begin_on s c.args.loaded.items p.refusals.items r.refusals.items p.labels.items p.starts.items c.in_ok-ran.ensures.refusals c.in_ok-prepared.ensures in
    let o = outcome_on s p.refusals.items r.refusals.items p.labels.items p.starts.items r.outcome c.in_ok-ran.ensures.refusals c.in_ok-ran.ensures.outcome in
    bays_ok s c.args.loaded.items r.refusals.items p.labels.items p.starts.items r.outcome b o c.report_on.result c.report_on.ensures.bays

pub returns-clause-kept : goal.returns-clause-kept
returns-clause-kept g c =
    let s = c.args.script.now in
    let p = c.in_ok-prepared.prepared in
    let r = c.in_ok-ran.ran in
    let b = begin_on s c.args.loaded.items p.refusals.items r.refusals.items p.labels.items p.starts.items c.in_ok-ran.ensures.refusals c.in_ok-prepared.ensures in
    let o = outcome_on s p.refusals.items r.refusals.items p.labels.items p.starts.items r.outcome c.in_ok-ran.ensures.refusals c.in_ok-ran.ensures.outcome in
    kept_ok s c.args.loaded.items r.refusals.items p.labels.items p.starts.items r.outcome b o c.report_on.result c.report_on.ensures.says

pub returns-clause-count : goal.returns-clause-count
returns-clause-count g c =
    let s = c.args.script.now in
    let p = c.in_ok-prepared.prepared in
    let r = c.in_ok-ran.ran in
    let b = begin_on s c.args.loaded.items p.refusals.items r.refusals.items p.labels.items p.starts.items c.in_ok-ran.ensures.refusals c.in_ok-prepared.ensures in
    let o = outcome_on s p.refusals.items r.refusals.items p.labels.items p.starts.items r.outcome c.in_ok-ran.ensures.refusals c.in_ok-ran.ensures.outcome in
    count_ok s c.args.loaded.items r.refusals.items p.labels.items p.starts.items r.outcome b o c.report_on.result c.report_on.ensures.says
