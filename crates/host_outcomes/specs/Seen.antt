-- What the histories of a report show of orders (own).
use Rattle.std.specs.Prelude.{◌≡◌, ℕ, ◌<◌}
use Rattle.fab_orders.specs.declared.outcomes.Outcome.{Outcome}
use Rattle.fab_orders.specs.declared.outcomes.Start.{Start}
use Rattle.fab_orders.specs.Orders.{found_by, moved_at, reached_in}
use Rattle.fab_orders.specs.Outcomes.{line_of, IsUnended}
use Rattle.fab_orders.specs.Totals.{total}
use Rattle.host_judge.specs.host_form.specs.Histories.{history_of, lefts_at, lines_at, reached, Histories, IsPlaced}

-- of the tenant of number n in these histories, which is tenant k of a run and begins so: where an order moved it, it is put in line; where it was found
-- for one, it leaves; its notes go as far as in the bays; and it is put in line nowhere unless its run doesn't end where it begins
pub record Sees (histories : Histories) (n k : ℕ) (s : Start) (out : Outcome) : Type 0 where
  pub moved : (j g : ℕ) → 0 < moved_at k j g out.answers.items → 0 < lines_at n j (history_of histories g)
  pub left : (j g : ℕ) → 0 < total (found_by (line_of k j g)) out.answers.items → 0 < lefts_at n j (history_of histories g)
  pub far : reached histories n ≡ reached_in k out.bays.items
  pub placed : IsPlaced histories n → IsUnended s.transit.parcel
