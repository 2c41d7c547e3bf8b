use Rattle.std.proofs.Common.{◌≡◌, ◌≤◌, ◌++◌, List, length}
use Rattle.std.specs.Prelude.{All}
use Rattle.fab_core.specs.ten_parcel.specs.Parcels.{number_of, ticks_of}
use Rattle.fab_rounds.specs.declared.ledgers.Moving.{Moving}
use Rattle.fab_rounds.specs.Ledgers.{reach_in, IsLedger, IsSameAnswers, IsSameRun, KeepsReach, KeepsSums}
use Rattle.fab_rounds.proofs.ledgers.Ledger.put_all.Given as goal

abbrev pub invariant-loop-next : goal.invariant-loop-next
invariant-loop-next g l = record {
  ledger : IsLedger l.desks l.ledger;
  same : IsSameRun l.fn.self l.ledger;
  sums : KeepsSums l.fn.self l.ledger;
  answers : IsSameAnswers l.fn.self l.ledger;
  reach : KeepsReach l.fn.self l.ledger;
  there : (put : List Moving) × (l.fn.self.moving.items ≡ l.ledger.moving.items ++ put) × All (λ m. ticks_of m.transit.parcel ≤ reach_in (number_of m.transit.parcel) l.ledger.firsts.items) put;
}

abbrev pub decreases-loop-next : goal.decreases-loop-next
decreases-loop-next g l = length l.ledger.moving.items
