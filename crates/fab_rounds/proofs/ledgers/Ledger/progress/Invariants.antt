use Rattle.std.proofs.Common.{ℕ, ◌≡◌, ◌<◌, ◌≤◌, length, get_or}
use Rattle.fab_rounds.specs.Ledgers.{reach, reach_in, DeskSeatFacts, IsLedger}
use Rattle.fab_rounds.specs.Tries.{Seeks}
use Rattle.fab_rounds.proofs.ledgers.Ledger.progress.Given as goal

abbrev pub invariant-loop-place : goal.invariant-loop-place
invariant-loop-place l = record {
  ledger : IsLedger l.desks l.self;
  seeks : Seeks l.desks l.fn.self l.self;
  count : length l.self.firsts.items ≡ length l.fn.self.firsts.items;
  each : (i : ℕ) (d : DeskSeatFacts) → i < length l.fn.self.firsts.items → reach l.tenant (get_or l.fn.self.firsts.items i d) ≤ reach l.tenant (get_or l.self.firsts.items i d);
  before : (i : ℕ) (d : DeskSeatFacts) → i < l.place → reach l.tenant (get_or l.fn.self.firsts.items i d) ≤ l.most;
  most : l.most ≤ reach_in l.tenant l.self.firsts.items;
}
