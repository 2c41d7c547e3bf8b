use Rattle.std.proofs.Common.{◌≡◌, ℕ, ◌+◌, ◌<◌, [], length, get_or}
use Rattle.std.specs.Prelude.{All}
use Rattle.fab_core.specs.fab_model.specs.Tokens.{Token}
use Rattle.fab_rounds.specs.declared.workers.Worker.{Worker}
use Rattle.fab_rounds.specs.Ledgers.{in_hand, worker_piles, AreLeft, IsKept, IsSameAnswers, IsSameRun}
use Rattle.fab_rounds.proofs.ledgers.Ledger.take_all.Given as goal

abbrev pub invariant-loop-i : goal.invariant-loop-i
invariant-loop-i l = record {
  kept : IsKept l.self;
  left : All (λ w. AreLeft l.self.loaded.value.items w.out.items) l.workers.items;
  same : IsSameRun l.fn.self l.self;
  answers : IsSameAnswers l.fn.self l.self;
  firsts : l.self.firsts ≡ l.fn.self.firsts;
  sums : (f : Token → ℕ) → in_hand f l.self + worker_piles f l.workers.items ≡ in_hand f l.fn.self + worker_piles f l.fn.workers.items;
  count : length l.workers.items ≡ length l.fn.workers.items;
  empty : (k : ℕ) (w : Worker) → k < l.i → (get_or l.workers.items k w).out.items ≡ [];
  fabric : (k : ℕ) (w : Worker) → k < length l.fn.workers.items → (get_or l.workers.items k w).fabric ≡ (get_or l.fn.workers.items k w).fabric;
  seat : (k : ℕ) (w : Worker) → k < length l.fn.workers.items → (get_or l.workers.items k w).seat ≡ (get_or l.fn.workers.items k w).seat;
}
