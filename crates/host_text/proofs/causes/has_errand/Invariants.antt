use Rattle.std.proofs.Common.{◌≡◌, ◌==◌, ◌&&◌, false, take}
use Rattle.std.specs.List.{list_any}
use Rattle.host_text.specs.Seen.{order_seen}
use Rattle.host_text.specs.Causes.{is_doubled}
use Rattle.host_text.proofs.causes.has_errand.Given as goal

abbrev pub invariant-loop-errand : goal.invariant-loop-errand
invariant-loop-errand l = list_any (λ e. e.tick == l.tick && is_doubled (order_seen l.order) e.due) (take l.errand-index l.errand-items) ≡ false
