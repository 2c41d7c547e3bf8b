use Rattle.std.proofs.Common.{◌≡◌, ◌≤◌, ℕ}
use Rattle.fab_core.specs.fab_model.specs.Tokens.{Token}
use Rattle.fab_rounds.specs.Ledgers.{reach, seat_outs, seat_puts, IsFirst}
use Rattle.fab_rounds.proofs.putting.put_again.Given as goal

abbrev pub invariant-loop : goal.invariant-loop
invariant-loop g l = record {
  first : IsFirst l.desk l.seat;
  puts : (f : Token → ℕ) → seat_puts f l.seat ≡ seat_puts f l.initial.seat;
  outs : (f : Token → ℕ) → seat_outs f l.seat ≡ seat_outs f l.initial.seat;
  reach : (t : ℕ) → reach t l.initial.seat ≤ reach t l.seat;
  transit : l.transit ≡ l.fn.transit;
}
