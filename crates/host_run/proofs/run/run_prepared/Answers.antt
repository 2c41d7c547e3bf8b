use Rattle.std.proofs.Common.{List, map, sym, ap, ◌∙◌, subst, Option}
use Rattle.fab_rounds.specs.fab_orders.specs.declared.outcomes.Order.{Order}
use Rattle.fab_rounds.specs.fab_orders.specs.declared.outcomes.Start.{Start}
use Rattle.fab_rounds.specs.fab_orders.specs.Orders.{AreOrders}
use Rattle.host_form.specs.declared.refusal.Refusal.{Refusal}
use Rattle.host_report.specs.Ends.{is_refused}
use Rattle.host_outcomes.specs.Given.{costs_begun, given}
use Rattle.host_run.proofs.Endings.{all_parcels}
use Rattle.host_run.proofs.run.run_prepared.Goals as goal

pub orders_of-requires-clause-parcels : goal.orders_of-requires-clause-parcels
orders_of-requires-clause-parcels g c = rw c.deref-2.ensures.value (all_parcels c.args.prepared.labels.items c.args.prepared.starts.items c.requires.starts)

pub run-requires-clause-orders : goal.run-requires-clause-orders
run-requires-clause-orders g c κs within =
    let s = c.args.script.now in
    let p = c.args.prepared in
    let same =
    c.in_ok-orders.ensures
    ∙ ap (λ (rs : List (Option Refusal)). given s.fabrics (map is_refused rs) (costs_begun c.deref-2.result.now) s.free) c.deref.ensures.value
    ∙ ap (λ (ss : List Start). given s.fabrics (map is_refused p.refusals.items) (costs_begun ss) s.free) c.deref-2.ensures.value in
    subst (λ (os : List Order). AreOrders p.labels.items p.starts.items os) (sym same) c.requires.orders
