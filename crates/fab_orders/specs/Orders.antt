-- Orders that are given to tenants while they run, and what comes of them (own).
use Rattle.std.specs.Prelude.{ℕ, ◌+◌, ◌<◌, ◌≤◌, ◌==◌, ◌&&◌, List, [], ◌∷◌, ◌++◌, length, slice_index_or, max, if◌then◌else◌, Option, Some, None, All, ⊤}
use Rattle.fab_desk.specs.fab_bay.specs.vl_design.specs.Alone.{FreeSave}
use Rattle.fab_desk.specs.fab_bay.specs.fab_lock.specs.Histories.{high}
use Rattle.fab_desk.specs.fab_bay.specs.fab_model.specs.Tokens.{token_of, Token}
use Rattle.fab_desk.specs.fab_bay.specs.declared.noted.Label.{Label}
use Rattle.fab_desk.specs.fab_bay.specs.declared.noted.NotedCore.{NotedCore}
use Rattle.fab_desk.specs.fab_bay.specs.fab_model.specs.Histories.{entry_of}
use Rattle.fab_orders.specs.declared.outcomes.Answer.{Answer}
use Rattle.fab_orders.specs.declared.outcomes.Finding.{Finding}
use Rattle.fab_orders.specs.declared.outcomes.Order.{Order}
use Rattle.fab_orders.specs.declared.outcomes.Reached.{Reached}
use Rattle.fab_orders.specs.declared.outcomes.Reached.TheVariants as reached
use Rattle.fab_orders.specs.declared.outcomes.Start.{Start}
use Rattle.fab_orders.specs.declared.outcomes.Wanted.{Wanted}
use Rattle.fab_orders.specs.declared.outcomes.Wanted.TheVariants as wanted
use Rattle.fab_orders.specs.Starts.{HasPlaceFor}

-- ---- which may be given

-- the tenant is there; and one that is to move has room there
abbrev pub HasPlace : List Label → Start → Wanted → Type 0
HasPlace labels s (wanted.Move g) = HasPlaceFor labels g s.transit.parcel
HasPlace labels s w = ⊤

pub record IsOrder (labels : List Label) (starts : List Start) (o : Order) : Type 0 where
  pub tenant : o.tenant < length starts
  pub place : (d : Start) → HasPlace labels (slice_index_or starts o.tenant d) o.wanted

abbrev pub AreOrders : List Label → List Start → List Order → Type 0
AreOrders labels starts orders = All (IsOrder labels starts) orders

-- ---- what orders did

abbrev pub stop_in : ℕ → ℕ → Wanted → Reached → Option ℕ
stop_in t u wanted.Stop (reached.At k) = if u == t then Some k else None
stop_in t u w r = None

abbrev pub or_else : Option ℕ → Option ℕ → Option ℕ
or_else (Some k) later = Some k
or_else None later = later

-- the tick at which tenant t was stopped
abbrev pub stop_of : ℕ → List Answer → Option ℕ
stop_of t [] = None
stop_of t (a ∷ answers) = or_else (stop_in t a.order.value.tenant a.order.value.wanted a.reached) (stop_of t answers)

abbrev pub saves_in : ℕ → ℕ → Wanted → Reached → List FreeSave
saves_in t u (wanted.Save name) (reached.At k) = if u == t then record { name = name; tick = k } ∷ [] else []
saves_in t u w r = []

-- the snapshots that were made of tenant t, in the order of the orders
abbrev pub saves_of : ℕ → List Answer → List FreeSave
saves_of t [] = []
saves_of t (a ∷ answers) = saves_in t a.order.value.tenant a.order.value.wanted a.reached ++ saves_of t answers

-- 1 where tenant t was moved to fabric g at tick j
abbrev pub moves_in : (t j g : ℕ) → ℕ → Wanted → Reached → ℕ
moves_in t j g u (wanted.Move h) (reached.At k) = if (u == t) && ((k == j) && (h == g)) then 1 else 0
moves_in t j g u w r = 0

-- how often it was
abbrev pub moved_at : (t j g : ℕ) → List Answer → ℕ
moved_at t j g [] = 0
moved_at t j g (a ∷ answers) = moves_in t j g a.order.value.tenant a.order.value.wanted a.reached + moved_at t j g answers

-- 1 where a snapshot of tenant t was made at tick j, and it was put back on fabric g
abbrev pub backs_in : (t j g : ℕ) → ℕ → Wanted → Reached → Option Finding → ℕ
backs_in t j g u (wanted.Save name) (reached.At k) (Some x) = if (u == t) && ((k == j) && (x.fabric == g)) then 1 else 0
backs_in t j g u w r x = 0

-- how often it was put back there
abbrev pub back_at : (t j g : ℕ) → List Answer → ℕ
back_at t j g [] = 0
back_at t j g (a ∷ answers) = backs_in t j g a.order.value.tenant a.order.value.wanted a.reached a.finding + back_at t j g answers

-- ---- what they tell

-- the ticks told of tenant t, but for those at which it had ended
abbrev pub ticks_in : ℕ → ℕ → Reached → List ℕ
ticks_in t u (reached.At k) = if u == t then k ∷ [] else []
ticks_in t u (reached.Ended k) = []

abbrev pub ticks_told : ℕ → List Answer → List ℕ
ticks_told t [] = []
ticks_told t (a ∷ answers) = ticks_in t a.order.value.tenant a.reached ++ ticks_told t answers

-- a watch tells of no tick below one that was told of its tenant before
abbrev pub IsAbove : List Answer → ℕ → Wanted → Reached → Type 0
IsAbove earlier t wanted.Watch (reached.At k) = All (λ j. j ≤ k) (ticks_told t earlier)
IsAbove earlier t w r = ⊤

abbrev pub AreAbove : List Answer → List Answer → Type 0
AreAbove earlier [] = ⊤
AreAbove earlier (a ∷ answers) = IsAbove earlier a.order.value.tenant a.order.value.wanted a.reached × AreAbove (earlier ++ a ∷ []) answers

-- the greatest tick to which notes of tenant t go in these bays, and 0 without any
abbrev pub reached_in : ℕ → List NotedCore → ℕ
reached_in t [] = 0
reached_in t (b ∷ bays) = max (high entry_of t b.notes.items) (reached_in t bays)

-- ---- weights

-- that of the tenant as it came out for an order, on the fabric where it was
abbrev pub found_for : (ℕ → Token → ℕ) → Option Finding → ℕ
found_for f None = 0
found_for f (Some x) = f x.fabric (token_of x.transit.value)

abbrev pub found_by : (ℕ → Token → ℕ) → Answer → ℕ
found_by f a = found_for f a.finding

-- a token with one more snapshot that was made besides
abbrev pub with_save : List ℕ → Token → Token
with_save name x = record x { deed = record (x.deed) { free = x.deed.free ++ record { name = name; tick = x.tick } ∷ [] } }

-- that of the tenant as it was put in line for an order, on the fabric where it was put
abbrev pub put_for : (ℕ → Token → ℕ) → Wanted → Reached → Option Finding → ℕ
put_for f (wanted.Move g) (reached.At k) (Some x) = f g (token_of x.transit.value)
put_for f (wanted.Save name) (reached.At k) (Some x) = f x.fabric (with_save name (token_of x.transit.value))
put_for f w r x = 0

abbrev pub put_by : (ℕ → Token → ℕ) → Answer → ℕ
put_by f a = put_for f a.order.value.wanted a.reached a.finding

-- a snapshot changes the token: that of the new one, and that of the old one
abbrev pub gain_for : (Token → ℕ) → Wanted → Reached → Option Finding → ℕ
gain_for f (wanted.Save name) (reached.At k) (Some x) = f (with_save name (token_of x.transit.value))
gain_for f w r x = 0

abbrev pub gain_by : (Token → ℕ) → Answer → ℕ
gain_by f a = gain_for f a.order.value.wanted a.reached a.finding

abbrev pub loss_for : (Token → ℕ) → Wanted → Reached → Option Finding → ℕ
loss_for f (wanted.Save name) (reached.At k) (Some x) = f (token_of x.transit.value)
loss_for f w r x = 0

abbrev pub loss_by : (Token → ℕ) → Answer → ℕ
loss_by f a = loss_for f a.order.value.wanted a.reached a.finding

-- that of a tenant that had ended, or was stopped, as it was found
abbrev pub ended_for : (Token → ℕ) → Wanted → Reached → Option Finding → ℕ
ended_for f wanted.Stop (reached.At k) (Some x) = f (token_of x.transit.value)
ended_for f w (reached.Ended k) (Some x) = f (token_of x.transit.value)
ended_for f w r x = 0

abbrev pub ended_by : (Token → ℕ) → Answer → ℕ
ended_by f a = ended_for f a.order.value.wanted a.reached a.finding
