use Rattle.fab_rounds.specs.Ledgers.{Operates}
use Rattle.fab_rounds.proofs.operating.operated.Given as goal

abbrev pub invariant-loop : goal.invariant-loop
invariant-loop g l = Operates l.desks l.fn.ledger l.ledger
