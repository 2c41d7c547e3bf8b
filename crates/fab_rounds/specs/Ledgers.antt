-- What the main thread and the workers know between calls (own).
use Rattle.std.specs.Prelude.{◌≡◌, ◌≢◌, ◌⊎◌, ℕ, ◌+◌, ◌<◌, ◌≤◌, ◌==◌, ◌&&◌, false, true, List, [], ◌∷◌, ◌++◌, map, reverse, length, max, slice_index_or, if◌then◌else◌, All, Option, Some, None, Vec, ⊤}
use Rattle.fab_core.specs.vl_design.specs.declared.design.End.{End}
use Rattle.fab_core.specs.vl_design.specs.Alone.{Ends}
use Rattle.fab_core.specs.vl_design.specs.Queue.{Queue}
use Rattle.fab_core.specs.ten_parcel.specs.Parcels.{is_moved, is_stopped, number_of, origin_in, run_of, ticks_of, IsParcel}
use Rattle.fab_core.specs.fab_model.specs.Points.{ended, Point}
use Rattle.fab_core.specs.Standing.{IsPointOf}
use Rattle.fab_core.specs.fab_lock.specs.Facts.{IsSeatOf, LockFacts, SeatFacts}
use Rattle.fab_core.specs.fab_lock.specs.Histories.{high}
use Rattle.fab_core.specs.fab_model.specs.declared.note.Note.{Note}
use Rattle.fab_core.specs.fab_model.specs.declared.transit.Transit.{Transit}
use Rattle.fab_core.specs.fab_model.specs.Moves.{ends_idle}
use Rattle.fab_core.specs.fab_model.specs.Origins.{Origins, StartsFrom}
use Rattle.fab_core.specs.fab_model.specs.Tokens.{outs, puts, token_of, Token}
use Rattle.fab_desk.specs.fab_bay.specs.declared.leaving.Leaving.{Leaving}
use Rattle.fab_desk.specs.fab_bay.specs.declared.noted.Label.{Label}
use Rattle.fab_desk.specs.fab_bay.specs.declared.noted.NotedCore.{NotedCore}
use Rattle.fab_desk.specs.fab_bay.specs.Ways.{LeftFor}
use Rattle.fab_core.specs.fab_model.specs.Histories.{entry_of}
use Rattle.fab_orders.specs.declared.outcomes.Answer.{Answer}
use Rattle.fab_orders.specs.declared.outcomes.Cause.{Cause}
use Rattle.fab_orders.specs.declared.outcomes.Finding.{Finding}
use Rattle.fab_orders.specs.declared.outcomes.Reached.{Reached}
use Rattle.fab_orders.specs.declared.outcomes.Reached.TheVariants as reached
use Rattle.fab_orders.specs.declared.outcomes.Reason.{Reason}
use Rattle.fab_orders.specs.declared.outcomes.Reason.TheVariants.{First, Errand}
use Rattle.fab_orders.specs.declared.outcomes.Start.{Start}
use Rattle.fab_orders.specs.declared.outcomes.Wanted.{Wanted}
use Rattle.fab_orders.specs.declared.outcomes.Wanted.TheVariants as wanted
use Rattle.fab_rounds.specs.declared.ledgers.Ledger.{Ledger}
use Rattle.fab_rounds.specs.declared.ledgers.Moving.{Moving}
use Rattle.fab_rounds.specs.declared.workers.Worker.{Worker}
use Rattle.fab_orders.specs.Totals.{total}
use Rattle.fab_orders.specs.Starts.{AreLabels, AreStarts, HasPlaceFor, IsOwn}
use Rattle.fab_orders.specs.Orders.{ended_by, found_by, gain_by, loss_by, put_by, ticks_told, AreAbove, AreOrders}
use Rattle.fab_orders.specs.Outcomes.{cause_of, GoesOn, IsCause, IsClosed, IsReason, IsUnended}

abbrev pub DeskFacts : Type 0
DeskFacts = LockFacts Label

abbrev pub DeskSeatFacts : Type 0
DeskSeatFacts = SeatFacts Label Note

abbrev pub labels_of : List DeskFacts → List Label
labels_of desks = map (λ d. d.label) desks

-- ---- sums

-- the weights of the tenants that were put in line at a seat, and of those that came out there
abbrev pub seat_puts : (Token → ℕ) → DeskSeatFacts → ℕ
seat_puts f s = total f (puts s.view.own)

abbrev pub seat_outs : (Token → ℕ) → DeskSeatFacts → ℕ
seat_outs f s = total f (outs s.view.own)

-- the number of the fabric where a seat is
abbrev pub fabric_in : Option Label → ℕ
fabric_in None = 0
fabric_in (Some l) = l.fabric

abbrev pub put_there : (ℕ → Token → ℕ) → DeskSeatFacts → ℕ
put_there f s = seat_puts (f (fabric_in s.view.label)) s

abbrev pub found_there : (ℕ → Token → ℕ) → DeskSeatFacts → ℕ
found_there f s = seat_outs (f (fabric_in s.view.label)) s

abbrev pub transit_sum : (Token → ℕ) → List Transit → ℕ
transit_sum f ts = total (λ t. f (token_of t)) ts

abbrev pub start_sum : (Token → ℕ) → List Start → ℕ
start_sum f ss = total (λ s. f (token_of s.transit)) ss

abbrev pub moving_sum : (Token → ℕ) → List Moving → ℕ
moving_sum f ms = total (λ m. f (token_of m.transit)) ms

abbrev pub leaving_sum : (Token → ℕ) → List Leaving → ℕ
leaving_sum f ls = total (λ l. f (token_of l.transit)) ls

abbrev pub pile_sum : {Z : Type 0} → (Token → ℕ) → List (Vec Leaving Z) → ℕ
pile_sum f vs = total (λ v. leaving_sum f v.items) vs

-- ---- the ledger

-- one that can be put in line: it stands at a point where its run hasn't ended, and there is a place for it
pub record IsMoving (starts : List Start) (labels : List Label) (m : Moving) : Type 0 where
  pub point : (p : Point) × IsPointOf m.transit.parcel p × (ended p ≡ None)
  pub own : IsOwn starts m.transit.parcel
  pub place : HasPlaceFor labels m.fabric m.transit.parcel
  pub reason : IsReason starts m.reason m.fabric m.transit

-- ---- how far tenants have come

-- the greatest tick that a seat found of tenant t, and 0 without any
abbrev pub heard : ℕ → List (ℕ × ℕ) → ℕ
heard t [] = 0
heard t (word ∷ words) = if word.0 == t then max word.1 (heard t words) else heard t words

-- how far it has come, as a seat knows: by the history that it has seen, and by what it found
abbrev pub reach : ℕ → DeskSeatFacts → ℕ
reach t s = max (high entry_of t s.view.seen) (heard t s.view.known)

-- as all these seats know
abbrev pub reach_in : ℕ → List DeskSeatFacts → ℕ
reach_in t [] = 0
reach_in t (s ∷ seats) = max (reach t s) (reach_in t seats)

-- ---- answers

-- 1 for a cause by which tenant t moved as its plan says
abbrev pub errand_of : ℕ → Reason → ℕ → ℕ
errand_of t Errand u = if u == t then 1 else 0
errand_of t First u = 0

abbrev pub errands_of : ℕ → List Cause → ℕ
errands_of t causes = total (λ c. errand_of t c.reason (number_of c.transit.value.parcel)) causes

-- 1 for tenant t that has ended at tick k; and where it was stopped there
abbrev pub ended_at : (t k : ℕ) → Transit → ℕ
ended_at t k e = if (number_of e.parcel == t) && (ticks_of e.parcel == k) then 1 else 0

abbrev pub stopped_at : (t k : ℕ) → Transit → ℕ
stopped_at t k e = if (number_of e.parcel == t) && ((ticks_of e.parcel == k) && is_stopped e.parcel) then 1 else 0

-- 1 for an answer that tenant t was stopped at tick k
abbrev pub stop_told : (t k : ℕ) → ℕ → Wanted → Reached → ℕ
stop_told t k u wanted.Stop (reached.At j) = if (u == t) && (j == k) then 1 else 0
stop_told t k u w r = 0

abbrev pub stops_told : (t k : ℕ) → List Answer → ℕ
stops_told t k answers = total (λ a. stop_told t k a.order.value.tenant a.order.value.wanted a.reached) answers

-- tenant t was found at tick k, not below the one where it begins; where the move that stands there is done, it wasn't by that move that it left; and its
-- run doesn't end where it begins, or else it has moved as its plan says
pub record IsFinding (starts : List Start) (causes : List Cause) (t k : ℕ) (x : Finding) : Type 0 where
  pub number : number_of x.transit.value.parcel ≡ t
  pub ticks : ticks_of x.transit.value.parcel ≡ k
  pub own : IsOwn starts x.transit.value.parcel
  pub since : (d : Start) → ticks_of (slice_index_or starts t d).transit.parcel ≤ k
  pub withdrawn : is_moved x.transit.value.parcel ≡ true → x.transit.value.resident ≡ true → ends_idle x.transit.value.stays.items ≡ true
  pub begun : (d : Start) → IsUnended (slice_index_or starts t d).transit.parcel ⊎ (0 < errands_of t causes)

-- it was found so, where it was found
abbrev pub IsFindingIf : List Start → List Cause → (t k : ℕ) → Option Finding → Type 0
IsFindingIf starts causes t k None = ⊤
IsFindingIf starts causes t k (Some x) = IsFinding starts causes t k x

-- what is told of an order to tenant t
abbrev pub IsSound : List Start → List Cause → List Transit → ℕ → Wanted → Reached → Option Finding → Type 0
IsSound starts causes done t (wanted.Move g) (reached.At k) (Some x) = IsFinding starts causes t k x
IsSound starts causes done t wanted.Stop (reached.At k) (Some x) = IsFinding starts causes t k x × (0 < total (stopped_at t k) done)
IsSound starts causes done t (wanted.Save name) (reached.At k) (Some x) = IsFinding starts causes t k x
IsSound starts causes done t wanted.Watch (reached.At k) None = (d : Start) → IsUnended (slice_index_or starts t d).transit.parcel → ticks_of (slice_index_or starts t d).transit.parcel ≤ k
IsSound starts causes done t (wanted.Move g) (reached.Ended k) x = IsFindingIf starts causes t k x × (0 < total (ended_at t k) done)
IsSound starts causes done t wanted.Stop (reached.Ended k) x = IsFindingIf starts causes t k x × (0 < total (ended_at t k) done)
IsSound starts causes done t (wanted.Save name) (reached.Ended k) x = IsFindingIf starts causes t k x × (0 < total (ended_at t k) done)
IsSound starts causes done t w r x = ⊥

abbrev pub AreSoundAnswers : List Start → List Cause → List Transit → List Answer → Type 0
AreSoundAnswers starts causes done answers =
    All (λ a. (a.order.value.tenant < length starts) × IsSound starts causes done a.order.value.tenant a.order.value.wanted a.reached a.finding) answers

-- ---- the ledger

-- it has ended by itself, and isn't about to move; or an order has stopped it where its run goes on
abbrev pub HasStoppedBy : List Answer → Transit → Type 0
HasStoppedBy answers t =
    ((is_stopped t.parcel ≡ false) × (is_moved t.parcel ≡ false) × (end : End) × (last : Queue) × Ends (run_of t.parcel) (ticks_of t.parcel) end last)
    ⊎ ((is_stopped t.parcel ≡ true) × GoesOn t.parcel × (0 < stops_told (number_of t.parcel) (ticks_of t.parcel) answers))

-- one that has ended; where it has no stays, it is where it was loaded; and where the move that stands there is done, it wasn't by that move that it left
pub record HasEnded (starts : List Start) (answers : List Answer) (t : Transit) : Type 0 where
  pub parcel : IsParcel t.parcel
  pub own : IsOwn starts t.parcel
  pub first : t.stays.items ≡ [] → (d : Start) → ticks_of t.parcel ≡ ticks_of (slice_index_or starts (number_of t.parcel) d).transit.parcel
  pub withdrawn : is_moved t.parcel ≡ true → t.resident ≡ true → ends_idle t.stays.items ≡ true
  pub why : HasStoppedBy answers t

-- what the ledger keeps
pub record IsKept (l : Ledger) : Type 0 where
  pub labels : AreLabels l.loaded.value.items l.labels.value.items
  pub starts : AreStarts l.labels.value.items l.loaded.value.items
  pub moving : All (IsMoving l.loaded.value.items l.labels.value.items) l.moving.items
  pub done : All (HasEnded l.loaded.value.items l.answers.items) l.done.items
  pub causes : All (IsCause l.loaded.value.items) l.causes.items
  -- whoever was put in line at the first seats was so for a cause or an order, and whoever came out there was found for an order
  pub caused : (f : ℕ → Token → ℕ) → total (put_there f) l.firsts.items ≡ total (cause_of f) l.causes.items + total (put_by f) l.answers.items
  pub found : (f : ℕ → Token → ℕ) → total (found_there f) l.firsts.items ≡ total (found_by f) l.answers.items
  -- the orders are those that have an answer, and then those that wait, of which the last is the next
  pub asked : map (λ a. a.order.value) l.answers.items ++ reverse l.orders.items ≡ l.asked.value.items
  pub orders : AreOrders l.labels.value.items l.loaded.value.items l.orders.items
  pub answers : AreSoundAnswers l.loaded.value.items l.causes.items l.done.items l.answers.items
  -- whoever had ended where it was found, or was stopped there, is among those that have ended
  pub over : (f : Token → ℕ) → total (ended_by f) l.answers.items ≤ transit_sum f l.done.items
  -- what was told of a tenant is known at the first seats, and no watch tells of less than was told before it
  pub far : (t : ℕ) → All (λ j. j ≤ reach_in t l.firsts.items) (ticks_told t l.answers.items)
  pub watches : AreAbove [] l.answers.items

-- the first seats, in the order of the desks
abbrev pub IsFirst : DeskFacts → DeskSeatFacts → Type 0
IsFirst desk seat = IsSeatOf desk seat × (seat.view.low ≡ 0)

pub record AreFirsts (desks : List DeskFacts) (seats : List DeskSeatFacts) : Type 0 where
  pub count : length seats ≡ length desks
  pub each : (i : ℕ) (d : DeskFacts) (s : DeskSeatFacts) → i < length desks → IsFirst (slice_index_or desks i d) (slice_index_or seats i s)

-- the ledger with these desks
pub record IsLedger (desks : List DeskFacts) (l : Ledger) : Type 0 where
  pub kept : IsKept l
  pub labels : labels_of desks ≡ l.labels.value.items
  pub firsts : AreFirsts desks l.firsts.items

-- what it has, was put in line at the first seats, and came out there
abbrev pub in_hand : (Token → ℕ) → Ledger → ℕ
in_hand f l = moving_sum f l.moving.items + transit_sum f l.done.items

abbrev pub all_puts : (Token → ℕ) → Ledger → ℕ
all_puts f l = total (seat_puts f) l.firsts.items

abbrev pub all_outs : (Token → ℕ) → Ledger → ℕ
all_outs f l = total (seat_outs f) l.firsts.items

-- who came, and who is there or went: where a snapshot is made besides, the tenant goes as it was found, and comes with the snapshot
abbrev pub all_come : (Token → ℕ) → Ledger → ℕ
all_come f l = all_outs f l + total (gain_by f) l.answers.items

abbrev pub all_gone : (Token → ℕ) → Ledger → ℕ
all_gone f l = all_puts f l + in_hand f l + total (loss_by f) l.answers.items

-- as many more came as are there or went
abbrev pub KeepsBalance : Ledger → Ledger → Type 0
KeepsBalance l l' = (f : Token → ℕ) → all_come f l' + all_gone f l ≡ all_come f l + all_gone f l'

-- the first seats know no less of how far tenants have come
abbrev pub KeepsReach : Ledger → Ledger → Type 0
KeepsReach l l' = (t : ℕ) → reach_in t l.firsts.items ≤ reach_in t l'.firsts.items

-- the same answers were given, and the same orders wait
abbrev pub IsSameAnswers : Ledger → Ledger → Type 0
IsSameAnswers l l' = (l'.answers ≡ l.answers) × (l'.orders ≡ l.orders)

-- a call that takes nothing over from workers: what is put in line or in hand is what was, and nothing came out at the first seats
abbrev pub KeepsSums : Ledger → Ledger → Type 0
KeepsSums l l' = (f : Token → ℕ) → (all_puts f l' + in_hand f l' ≡ all_puts f l + in_hand f l) × (all_outs f l' ≡ all_outs f l)

-- the same tenants were loaded, and the same fabrics are there
abbrev pub IsSameRun : Ledger → Ledger → Type 0
IsSameRun l l' = (l'.loaded ≡ l.loaded) × (l'.labels ≡ l.labels) × (l'.asked ≡ l.asked)

-- a call that takes tenants over: so much more is in hand
pub record TakesOver (l l' : Ledger) (more : (Token → ℕ) → ℕ) : Type 0 where
  pub kept : IsKept l'
  pub same : IsSameRun l l'
  pub answers : IsSameAnswers l l'
  pub firsts : l'.firsts ≡ l.firsts
  pub sums : (f : Token → ℕ) → in_hand f l' ≡ in_hand f l + more f

-- a call that puts a tenant in line
pub record PutsOne (desks : List DeskFacts) (t : Transit) (l l' : Ledger) : Type 0 where
  pub ledger : IsLedger desks l'
  pub same : IsSameRun l l'
  pub moving : l'.moving ≡ l.moving
  pub done : l'.done ≡ l.done
  pub answers : IsSameAnswers l l'
  pub reach : KeepsReach l l'
  pub there : ticks_of t.parcel ≤ reach_in (number_of t.parcel) l'.firsts.items
  pub puts : (f : Token → ℕ) → all_puts f l' ≡ all_puts f l + f (token_of t)
  pub outs : (f : Token → ℕ) → all_outs f l' ≡ all_outs f l

-- ---- workers

-- a tenant that came out where these origins are named
pub record IsOut (origins : Origins) (l : Leaving) : Type 0 where
  pub left : LeftFor l
  pub own : StartsFrom origins (number_of l.transit.parcel) (origin_in l.transit.parcel)

abbrev pub AreOut : {Z : Type 0} → Origins → List (Vec Leaving Z) → Type 0
AreOut origins vs = All (λ v. All (IsOut origins) v.items) vs

-- the same by what was loaded
pub record IsLeft (starts : List Start) (l : Leaving) : Type 0 where
  pub left : LeftFor l
  pub own : IsOwn starts l.transit.parcel

abbrev pub AreLeft : {Z : Type 0} → List Start → List (Vec Leaving Z) → Type 0
AreLeft starts vs = All (λ v. All (IsLeft starts) v.items) vs

-- a worker at its desk
pub record IsWorker (desk : DeskFacts) (w : Worker) : Type 0 where
  pub seat : IsSeatOf desk w.seat
  pub apart : w.seat.view.low ≢ 0
  pub out : AreOut desk.label.origins w.out.items

-- what came out at its seat it handed over or still has
abbrev pub Tied : Worker → Worker → Type 0
Tied w w' = (f : Token → ℕ) → seat_outs f w'.seat + pile_sum f w.out.items ≡ seat_outs f w.seat + pile_sum f w'.out.items

-- a turn at a desk
pub record Steps (desk : DeskFacts) (w w' : Worker) : Type 0 where
  pub worker : IsWorker desk w'
  pub fabric : w'.fabric ≡ w.fabric
  pub tied : Tied w w'

-- a worker whose desk is among these
pub record IsAtDesk (desks : List DeskFacts) (w : Worker) : Type 0 where
  pub there : w.fabric < length desks
  pub worker : (d : DeskFacts) → IsWorker (slice_index_or desks w.fabric d) w

-- turns at it
pub record IsTurned (desks : List DeskFacts) (w w' : Worker) : Type 0 where
  pub at : IsAtDesk desks w'
  pub fabric : w'.fabric ≡ w.fabric
  pub tied : Tied w w'

-- the workers, in the order of the desks
pub record AreWorkers (desks : List DeskFacts) (workers : List Worker) : Type 0 where
  pub count : length workers ≡ length desks
  pub fabric : (i : ℕ) (w : Worker) → i < length desks → (slice_index_or workers i w).fabric ≡ i
  pub each : (i : ℕ) (d : DeskFacts) (w : Worker) → i < length desks → IsWorker (slice_index_or desks i d) (slice_index_or workers i w)

-- each has handed all over
abbrev pub AreEmpty : List Worker → Type 0
AreEmpty workers = All (λ w. w.out.items ≡ []) workers

-- all was handed over, and they are at their seats as before
pub record AreHandedOver (before after : List Worker) : Type 0 where
  pub count : length after ≡ length before
  pub empty : AreEmpty after
  pub fabric : (i : ℕ) (w : Worker) → i < length before → (slice_index_or after i w).fabric ≡ (slice_index_or before i w).fabric
  pub seat : (i : ℕ) (w : Worker) → i < length before → (slice_index_or after i w).seat ≡ (slice_index_or before i w).seat

abbrev pub worker_outs : (Token → ℕ) → List Worker → ℕ
worker_outs f ws = total (λ w. seat_outs f w.seat) ws

abbrev pub worker_piles : (Token → ℕ) → List Worker → ℕ
worker_piles f ws = total (λ w. pile_sum f w.out.items) ws

-- what was loaded or came is there or went
abbrev pub Balanced : Ledger → List Worker → Type 0
Balanced l workers = (f : Token → ℕ) → start_sum f l.loaded.value.items + worker_outs f workers + all_come f l ≡ all_gone f l

-- each tenant whose run doesn't end where it begins has come there
abbrev pub HaveBegun : Ledger → Type 0
HaveBegun l = (t : ℕ) (d : Start) → t < length l.loaded.value.items → IsUnended (slice_index_or l.loaded.value.items t d).transit.parcel →
    ticks_of (slice_index_or l.loaded.value.items t d).transit.parcel ≤ reach_in t l.firsts.items

-- nobody who was due to leave weighs anything
abbrev pub WeighsNoLeaver : (Token → ℕ) → Type 0
WeighsNoLeaver f = (l : Leaving) → LeftFor l → f (token_of l.transit) ≡ 0

-- between rounds: nobody moves, each worker has handed all over, and only who was due to leave came out at the workers' seats
pub record IsBetween (desks : List DeskFacts) (l : Ledger) (ws : List Worker) : Type 0 where
  pub ledger : IsLedger desks l
  pub workers : AreWorkers desks ws
  pub empty : AreEmpty ws
  pub none : l.moving.items ≡ []
  pub balanced : Balanced l ws
  pub begun : HaveBegun l
  pub outs : (f : Token → ℕ) → WeighsNoLeaver f → worker_outs f ws ≡ 0

-- a call by which orders are done while workers turn their desks
pub record Operates (desks : List DeskFacts) (l l' : Ledger) : Type 0 where
  pub ledger : IsLedger desks l'
  pub same : IsSameRun l l'
  pub none : l'.moving.items ≡ []
  pub balance : KeepsBalance l l'
  pub reach : KeepsReach l l'

-- nothing was put in line or came out yet
abbrev pub AreFresh : List DeskSeatFacts → Type 0
AreFresh seats = All (λ s. s.view.own ≡ []) seats

abbrev pub AreFreshWorkers : List Worker → Type 0
AreFreshWorkers workers = All (λ w. w.seat.view.own ≡ []) workers

-- ---- the end

-- the bay of two seats: only the first put tenants in line, and what came out is what came out at them, and some more
pub record IsShut (first other : DeskSeatFacts) (b : NotedCore) : Type 0 where
  pub closed : IsClosed b.label b
  pub rest : List Token
  pub outs : (f : Token → ℕ) → total f (outs b.notes.items) ≡ seat_outs f first + seat_outs f other + total f rest
  pub puts : (f : Token → ℕ) → total f (puts b.notes.items) ≡ seat_puts f first
  pub reach : (t : ℕ) → reach t first ≤ high entry_of t b.notes.items

-- the tenant at each place has its number, and none is missing
pub record AreAll (tenants : ℕ) (done : List Transit) : Type 0 where
  pub count : length done ≡ tenants
  pub number : (t : ℕ) (e : Transit) → t < length done → number_of (slice_index_or done t e).parcel ≡ t
