use Rattle.std.proofs.Common.{◌≡◌, ◌++◌, drop, map}
use Rattle.host_report.specs.Ends.{is_refused}
use Rattle.host_outcomes.specs.Given.{costs_begun, given}
use Rattle.host_outcomes.proofs.replies.orders_of.Given as goal

abbrev pub invariant-loop-order : goal.invariant-loop-order
invariant-loop-order l =
    l.orders.items ++ given l.script.fabrics (map is_refused l.refusals) (costs_begun l.starts) (drop l.order-index l.order-items)
    ≡ given l.script.fabrics (map is_refused l.refusals) (costs_begun l.starts) l.order-items
