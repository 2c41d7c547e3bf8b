use Rattle.std.proofs.Common.{◌≡◌, ◌<◌, ◌≤◌, max, ℕ, ◌+◌, ◌++◌, false, List, length, get_or, map}
use Rattle.std.specs.Prelude.{All}
use Rattle.fab_core.specs.fab_model.specs.Tokens.{Token}
use Rattle.fab_rounds.specs.declared.workers.Worker.{Worker}
use Rattle.fab_orders.specs.Totals.{total}
use Rattle.fab_orders.specs.Orders.{reached_in}
use Rattle.fab_orders.specs.Outcomes.{lefts_there, lines_there}
use Rattle.fab_rounds.specs.Ledgers.{found_there, labels_of, put_there, reach_in, seat_outs, worker_outs, AreFirsts, DeskFacts, IsWorker}
use Rattle.fab_rounds.proofs.Conserved.{outs_in, IsOneClosed}
use Rattle.fab_rounds.proofs.closing.closed.Given as goal

abbrev pub invariant-loop-desk : goal.invariant-loop-desk
invariant-loop-desk g l = record {
  firsts : AreFirsts l.desks.items l.firsts.items;
  count : length l.workers.items ≡ length l.desks.items;
  workers : (i : ℕ) (d : DeskFacts) (w : Worker) → i < length l.desks.items → IsWorker (get_or l.desks.items i d) (get_or l.workers.items i w);
  any_puts : All (λ d. d.label.any_puts ≡ false) l.desks.items;
  labels : labels_of l.desks.items ++ map (λ b. b.label) l.bays.items ≡ l.fn.ledger.labels.value.items;
  closed : All IsOneClosed l.bays.items;
  there : (f : ℕ → Token → ℕ) → total (put_there f) l.firsts.items + total (lines_there f) l.bays.items ≡ total (put_there f) l.fn.ledger.firsts.items;
  outs : (rest : List Token) × ((f : Token → ℕ) → total (seat_outs f) l.firsts.items + worker_outs f l.workers.items + total (outs_in f) l.bays.items ≡ total (seat_outs f) l.fn.ledger.firsts.items + worker_outs f l.fn.workers.items + total f rest);
  lefts : (f : ℕ → Token → ℕ) → total (found_there f) l.fn.ledger.firsts.items ≤ total (found_there f) l.firsts.items + total (lefts_there f) l.bays.items;
  reach : (t : ℕ) → reach_in t l.fn.ledger.firsts.items ≤ max (reach_in t l.firsts.items) (reached_in t l.bays.items);
}

abbrev pub decreases-loop-desk : goal.decreases-loop-desk
decreases-loop-desk g l = length l.desks.items
