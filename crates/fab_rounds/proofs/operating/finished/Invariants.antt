use Rattle.std.proofs.Common.{◌≡◌, length}
use Rattle.fab_rounds.specs.Ledgers.{Operates}
use Rattle.fab_rounds.proofs.operating.finished.Given as goal

abbrev pub invariant-loop-next : goal.invariant-loop-next
invariant-loop-next l = record {
  operates : Operates l.desks l.fn.ledger l.ledger;
  done : l.ledger.done ≡ l.fn.ledger.done;
}

abbrev pub decreases-loop-next : goal.decreases-loop-next
decreases-loop-next l = length l.ledger.orders.items
