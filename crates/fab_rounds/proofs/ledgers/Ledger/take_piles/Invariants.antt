use Rattle.std.proofs.Common.{◌≡◌, ℕ, ◌+◌, length}
use Rattle.fab_core.specs.fab_model.specs.Tokens.{Token}
use Rattle.fab_rounds.specs.Ledgers.{in_hand, pile_sum, AreLeft, IsKept, IsSameAnswers, IsSameRun}
use Rattle.fab_rounds.proofs.ledgers.Ledger.take_piles.Given as goal

abbrev pub invariant-loop-pile : goal.invariant-loop-pile
invariant-loop-pile l = record {
  kept : IsKept l.self;
  left : AreLeft l.self.loaded.value.items l.piles.items;
  same : IsSameRun l.fn.self l.self;
  answers : IsSameAnswers l.fn.self l.self;
  firsts : l.self.firsts ≡ l.fn.self.firsts;
  sums : (f : Token → ℕ) → in_hand f l.self + pile_sum f l.piles.items ≡ in_hand f l.fn.self + pile_sum f l.fn.piles.items;
}

abbrev pub decreases-loop-pile : goal.decreases-loop-pile
decreases-loop-pile l = length l.piles.items
