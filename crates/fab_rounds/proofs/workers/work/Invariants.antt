use Rattle.std.proofs.Common.{◌≡◌}
use Rattle.fab_rounds.specs.Ledgers.{IsAtDesk, Tied}
use Rattle.fab_rounds.proofs.workers.work.Given as goal

abbrev pub invariant-loop : goal.invariant-loop
invariant-loop g l = record {
  at : IsAtDesk l.desks l.worker;
  fabric : l.worker.fabric ≡ l.fn.worker.fabric;
  tied : Tied l.fn.worker l.worker;
}
