-- What a run comes to (own).
use Rattle.std.specs.Prelude.{◌≡◌, ℕ, ◌+◌, ◌<◌, ◌≤◌, ◌==◌, ◌&&◌, ◌||◌, Bool, true, false, List, [], length, map, slice_index_or, slice_get, nat_le, nat_lt, if◌then◌else◌, All, Option, Some, None}
use Rattle.fab_desk.specs.fab_bay.specs.vl_design.specs.declared.design.End.{End}
use Rattle.fab_desk.specs.fab_bay.specs.vl_design.specs.Alone.{reason_at, Boundary, Ends, FreeSave}
use Rattle.fab_desk.specs.fab_bay.specs.vl_design.specs.Queue.{Queue}
use Rattle.fab_desk.specs.fab_bay.specs.ten_parcel.specs.declared.parcel.Parcel.{Parcel}
use Rattle.fab_desk.specs.fab_bay.specs.ten_parcel.specs.Parcels.{free_of, is_moved, is_stopped, number_of, origin_in, run_of, ticks_of, IsParcel}
use Rattle.fab_desk.specs.fab_bay.specs.ten_plan.specs.Plans.{move_at}
use Rattle.fab_desk.specs.fab_bay.specs.fab_model.specs.declared.transit.Stay.{Stay}
use Rattle.fab_desk.specs.fab_bay.specs.fab_model.specs.declared.transit.Transit.{Transit}
use Rattle.fab_desk.specs.fab_bay.specs.fab_model.specs.Histories.{stays_of, AreLinesByFirst, IsLegal}
use Rattle.fab_desk.specs.fab_bay.specs.fab_model.specs.Moves.{ends_idle}
use Rattle.fab_desk.specs.fab_bay.specs.fab_model.specs.Origins.{AreOwn}
use Rattle.fab_desk.specs.fab_bay.specs.fab_model.specs.Tokens.{outs, puts, token_of, Token}
use Rattle.fab_desk.specs.fab_bay.specs.declared.noted.Label.{Label}
use Rattle.fab_desk.specs.fab_bay.specs.declared.noted.NotedCore.{NotedCore}
use Rattle.fab_orders.specs.declared.outcomes.Answer.{Answer}
use Rattle.fab_orders.specs.declared.outcomes.Cause.{Cause}
use Rattle.fab_orders.specs.declared.outcomes.Finding.{Finding}
use Rattle.fab_orders.specs.declared.outcomes.Order.{Order}
use Rattle.fab_orders.specs.declared.outcomes.Reached.{Reached}
use Rattle.fab_orders.specs.declared.outcomes.Reached.TheVariants as reached
use Rattle.fab_orders.specs.declared.outcomes.Reason.{Reason}
use Rattle.fab_orders.specs.declared.outcomes.Reason.TheVariants.{First, Errand}
use Rattle.fab_orders.specs.declared.outcomes.Outcome.{Outcome}
use Rattle.fab_orders.specs.declared.outcomes.Start.{Start}
use Rattle.fab_orders.specs.declared.outcomes.Wanted.{Wanted}
use Rattle.fab_orders.specs.declared.outcomes.Wanted.TheVariants as wanted
use Rattle.fab_orders.specs.Orders.{back_at, found_by, moved_at, reached_in, saves_of, stop_of, AreAbove}
use Rattle.fab_orders.specs.Totals.{total}
use Rattle.fab_orders.specs.Starts.{IsOwn}

-- its run has no reason to end up to where it rests
pub record GoesOn (p : Parcel) : Type 0 where
  pub last : Queue
  pub at : Boundary (run_of p) (ticks_of p) last
  pub none : (j : ℕ) (q : Queue) → j ≤ ticks_of p → Boundary (run_of p) j q → reason_at (run_of p).plan j q ≡ None

-- its run alone ends where it rests, and it isn't about to move; or it goes on there, and an order has stopped it
pub data HasStopped (stop : Option ℕ) (p : Parcel) : Type 0 where
  alone : stop ≡ None → is_stopped p ≡ false → is_moved p ≡ false → (end : End) (last : Queue) → Ends (run_of p) (ticks_of p) end last → HasStopped stop p
  ordered : stop ≡ Some (ticks_of p) → is_stopped p ≡ true → GoesOn p → HasStopped stop p

-- tenant t as it has ended: it starts from what it did when it was loaded, and the snapshots made besides are those that were ordered, in
-- some order
pub record IsEnded (s : Start) (t : ℕ) (answers : List Answer) (e : Transit) : Type 0 where
  pub number : number_of e.parcel ≡ t
  pub parcel : IsParcel e.parcel
  pub origin : origin_in e.parcel ≡ origin_in s.transit.parcel
  pub free : (w : FreeSave → ℕ) → total w (free_of e.parcel) ≡ total w (saves_of t answers)
  pub why : HasStopped (stop_of t answers) e.parcel

-- the bay of this label, by whose history only the first seat put tenants in line, each of which starts from what the label names
pub record IsClosed (l : Label) (b : NotedCore) : Type 0 where
  pub label : b.label ≡ l
  pub legal : IsLegal l.fabric l.capacity b.notes.items
  pub lines : AreLinesByFirst b.notes.items
  pub own : AreOwn l.origins (puts b.notes.items)

-- the weights of a tenant's stays there, and of the tenants put in line there, added up
abbrev pub stays_there : ℕ → (Stay → ℕ) → NotedCore → ℕ
stays_there t w b = total w (stays_of b.label.fabric t b.notes.items)

abbrev pub lines_there : (ℕ → Token → ℕ) → NotedCore → ℕ
lines_there f b = total (f b.label.fabric) (puts b.notes.items)

-- its run doesn't end where it rests
abbrev pub IsUnended : Parcel → Type 0
IsUnended p = (end : End) (q : Queue) → Ends (run_of p) (ticks_of p) end q → ⊥

-- it has left for the move that stands where it rests, which goes to fabric g: it was a resident, and hadn't come by that move
pub record IsErrand (starts : List Start) (g : ℕ) (t : Transit) : Type 0 where
  pub own : IsOwn starts t.parcel
  pub moved : is_moved t.parcel ≡ true
  pub move : move_at (ticks_of t.parcel) (run_of t.parcel).plan.errands ≡ Some g
  pub unended : IsUnended t.parcel
  pub resident : t.resident ≡ true
  pub busy : ends_idle t.stays.items ≡ false

-- why it is put in line on fabric g: it is as it was loaded, begins there, and its run doesn't end where it rests; or it moves there
abbrev pub IsReason : List Start → Reason → ℕ → Transit → Type 0
IsReason starts First g t = (slice_get starts (number_of t.parcel) ≡ Some (record { fabric = g; transit = t })) × IsUnended t.parcel
IsReason starts Errand g t = IsErrand starts g t

abbrev pub IsCause : List Start → Cause → Type 0
IsCause starts c = IsReason starts c.reason c.fabric c.transit.value

abbrev pub cause_of : (ℕ → Token → ℕ) → Cause → ℕ
cause_of f c = f c.fabric (token_of c.transit.value)

-- 1 for tenant t at tick j that is put in line on fabric g, 0 for any other
abbrev pub line_of : (t j g : ℕ) → ℕ → Token → ℕ
line_of t j g h x = if (x.tenant == t) && ((x.tick == j) && (h == g)) then 1 else 0

-- 1 where a tenant begins on fabric g, at tick j: where it has ended at a later one, or was stopped; else 0
abbrev pub begins_at : Start → Transit → (g j : ℕ) → ℕ
begins_at s e g j = if (ticks_of s.transit.parcel == j) && ((nat_lt j (ticks_of e.parcel) || is_stopped e.parcel) && (s.fabric == g)) then 1 else 0

-- it goes to fabric g
abbrev pub goes_to : ℕ → Option ℕ → Bool
goes_to g None = false
goes_to g (Some h) = h == g

-- it is behind the move of tick j: it has ended at a later tick, or at that one with the move done
abbrev pub is_past : ℕ → Parcel → Bool
is_past j p = nat_lt j (ticks_of p) || ((ticks_of p == j) && is_moved p)

-- 1 where the move of its plan that stands at tick j goes to fabric g, that is its first tick or a later one, and it has ended behind it; else 0
abbrev pub moves_at : Start → Transit → (g j : ℕ) → ℕ
moves_at s e g j = if goes_to g (move_at j (run_of s.transit.parcel).plan.errands) && (nat_le (ticks_of s.transit.parcel) j && is_past j e.parcel) then 1 else 0

-- how often it is put in line on fabric g at tick j, but for orders: once where it begins, and once for the move that goes there
abbrev pub lines_at : Start → Transit → (g j : ℕ) → ℕ
lines_at s e g j = begins_at s e g j + moves_at s e g j

-- the weights of those that left there, added up
abbrev pub lefts_there : (ℕ → Token → ℕ) → NotedCore → ℕ
lefts_there f b = total (f b.label.fabric) (outs b.notes.items)

-- tenant t was found at this tick; its run doesn't end where it begins
abbrev pub IsFoundAt : Start → ℕ → ℕ → Finding → Type 0
IsFoundAt s t k x = (number_of x.transit.value.parcel ≡ t) × (ticks_of x.transit.value.parcel ≡ k) × IsUnended s.transit.parcel

-- what is told of an order to tenant t, which begins so and ends as e: it was found at the tick at which it was moved, stopped or saved; it ends where it
-- was stopped, and not before it was saved; what a watch tells is reached in a bay, and not below where it begins, unless its run ends there; and where it
-- had ended, that is where it ends
abbrev pub IsTrue : List NotedCore → Start → Transit → ℕ → Wanted → Reached → Option Finding → Type 0
IsTrue bays s e t (wanted.Move g) (reached.At k) (Some x) = IsFoundAt s t k x
IsTrue bays s e t wanted.Stop (reached.At k) (Some x) = IsFoundAt s t k x × (k ≡ ticks_of e.parcel) × (is_stopped e.parcel ≡ true)
IsTrue bays s e t (wanted.Save name) (reached.At k) (Some x) = IsFoundAt s t k x × (ticks_of s.transit.parcel ≤ k) × (k ≤ ticks_of e.parcel)
IsTrue bays s e t wanted.Watch (reached.At k) None = (k ≤ reached_in t bays) × (IsUnended s.transit.parcel → ticks_of s.transit.parcel ≤ k)
IsTrue bays s e t (wanted.Move g) (reached.Ended k) x = k ≡ ticks_of e.parcel
IsTrue bays s e t wanted.Stop (reached.Ended k) x = k ≡ ticks_of e.parcel
IsTrue bays s e t (wanted.Save name) (reached.Ended k) x = k ≡ ticks_of e.parcel
IsTrue bays s e t w r x = ⊥

-- each tenant has ended, each fabric's bay has its history, a tenant's stays over all fabrics are those that it has with it; each tenant is put in line
-- as often as it begins there, its plan moves it there before it has ended, and orders move it there or put it back; and the orders have these answers, which are
-- true, each with the tenant that left the fabric where it was found
pub record IsOutcome (labels : List Label) (starts : List Start) (orders : List Order) (out : Outcome) : Type 0 where
  pub all_ended : length out.ended.items ≡ length starts
  pub ended : (t : ℕ) (d : Start) (e : Transit) → t < length starts → IsEnded (slice_index_or starts t d) t out.answers.items (slice_index_or out.ended.items t e)
  pub all_bays : length out.bays.items ≡ length labels
  pub bays : (i : ℕ) (d : Label) (b : NotedCore) → i < length labels → IsClosed (slice_index_or labels i d) (slice_index_or out.bays.items i b)
  pub stays : (t : ℕ) (e : Transit) (w : Stay → ℕ) → t < length starts → total (stays_there t w) out.bays.items ≡ total w (slice_index_or out.ended.items t e).stays.items
  pub puts_at : (t j g : ℕ) (d : Start) (e : Transit) → t < length starts →
      total (lines_there (line_of t j g)) out.bays.items ≡ lines_at (slice_index_or starts t d) (slice_index_or out.ended.items t e) g j + moved_at t j g out.answers.items + back_at t j g out.answers.items
  pub asked : map (λ a. a.order.value) out.answers.items ≡ orders
  pub answers : All (λ a. (d : Start) (e : Transit) → IsTrue out.bays.items (slice_index_or starts a.order.value.tenant d) (slice_index_or out.ended.items a.order.value.tenant e) a.order.value.tenant a.order.value.wanted a.reached a.finding) out.answers.items
  pub lefts : (f : ℕ → Token → ℕ) → total (found_by f) out.answers.items ≤ total (lefts_there f) out.bays.items
  pub watches : AreAbove [] out.answers.items
