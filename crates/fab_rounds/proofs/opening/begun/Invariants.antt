use Rattle.std.proofs.Common.{◌≡◌, ℕ, ◌+◌, ◌++◌, List, [], length}
use Rattle.fab_core.specs.fab_model.specs.Tokens.{Token}
use Rattle.fab_orders.specs.declared.outcomes.Start.{Start}
use Rattle.fab_rounds.specs.Ledgers.{in_hand, start_sum, IsKept}
use Rattle.fab_rounds.proofs.opening.begun.Given as goal

abbrev pub invariant-loop-start : goal.invariant-loop-start
invariant-loop-start l = record {
  kept : IsKept l.ledger;
  firsts : l.ledger.firsts ≡ l.fn.firsts;
  labels : l.ledger.labels ≡ l.fn.labels;
  loaded : l.ledger.loaded.value ≡ l.fn.starts;
  asked : l.ledger.asked.value ≡ l.fn.orders;
  none : l.ledger.answers.items ≡ [];
  front : (rest : List Start) × (l.fn.starts.items ≡ l.starts.items ++ rest);
  sums : (f : Token → ℕ) → in_hand f l.ledger + start_sum f l.starts.items ≡ start_sum f l.fn.starts.items;
}

abbrev pub decreases-loop-start : goal.decreases-loop-start
decreases-loop-start l = length l.starts.items
