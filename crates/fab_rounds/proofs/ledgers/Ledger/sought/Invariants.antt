use Rattle.fab_rounds.specs.Ledgers.{IsLedger}
use Rattle.fab_rounds.specs.Tries.{Seeks}
use Rattle.fab_rounds.proofs.ledgers.Ledger.sought.Given as goal

abbrev pub invariant-loop-fabric : goal.invariant-loop-fabric
invariant-loop-fabric g l = record {
  ledger : IsLedger l.desks l.self;
  seeks : Seeks l.desks l.fn.self l.self;
}
