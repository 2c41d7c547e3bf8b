use Rattle.std.proofs.Common.{◌≡◌, ℕ, ◌+◌, length}
use Rattle.std.specs.Prelude.{All}
use Rattle.fab_core.specs.fab_model.specs.Tokens.{Token}
use Rattle.fab_rounds.specs.Ledgers.{in_hand, leaving_sum, IsKept, IsLeft, IsSameAnswers, IsSameRun}
use Rattle.fab_rounds.proofs.ledgers.Ledger.take_pile.Given as goal

abbrev pub invariant-loop-leaving : goal.invariant-loop-leaving
invariant-loop-leaving l = record {
  kept : IsKept l.self;
  left : All (IsLeft l.self.loaded.value.items) l.pile.items;
  same : IsSameRun l.fn.self l.self;
  answers : IsSameAnswers l.fn.self l.self;
  firsts : l.self.firsts ≡ l.fn.self.firsts;
  sums : (f : Token → ℕ) → in_hand f l.self + leaving_sum f l.pile.items ≡ in_hand f l.fn.self + leaving_sum f l.fn.pile.items;
}

abbrev pub decreases-loop-leaving : goal.decreases-loop-leaving
decreases-loop-leaving l = length l.pile.items
