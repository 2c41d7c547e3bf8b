use Rattle.fab_rounds.specs.Ledgers.{IsBetween, IsSameRun}
use Rattle.fab_rounds.proofs.rounds.rounds_of.Given as goal

abbrev pub invariant-loop : goal.invariant-loop
invariant-loop g l = record {
  between : IsBetween l.desks l.ledger l.workers.items;
  same : IsSameRun l.fn.ledger l.ledger;
}
