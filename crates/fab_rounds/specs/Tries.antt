-- How orders are tried (own).
use Rattle.std.specs.Prelude.{◌≡◌, ℕ, ◌+◌, ◌<◌, ◌≤◌, Bool, true, false, List, [], ◌∷◌, ◌++◌, length, Option, Some, None, ⊤}
use Rattle.std.specs.declared.snapshot.Snapshot.{Snapshot}
use Rattle.fab_core.specs.ten_parcel.specs.Parcels.{is_stopped, number_of, ticks_of, IsParcel}
use Rattle.fab_core.specs.fab_model.specs.Points.{ended, Point}
use Rattle.fab_core.specs.Standing.{IsPointOf}
use Rattle.fab_core.specs.fab_model.specs.declared.transit.Transit.{Transit}
use Rattle.fab_core.specs.fab_model.specs.Tokens.{token_of, Token}
use Rattle.fab_desk.specs.fab_bay.specs.Taking.{IsWithdrawn}
use Rattle.fab_rounds.specs.declared.ledgers.Ledger.{Ledger}
use Rattle.fab_orders.specs.declared.outcomes.Order.{Order}
use Rattle.fab_orders.specs.declared.outcomes.Reached.{Reached}
use Rattle.fab_orders.specs.declared.outcomes.Reached.TheVariants as reached
use Rattle.fab_orders.specs.declared.outcomes.Wanted.{Wanted}
use Rattle.fab_orders.specs.declared.outcomes.Wanted.TheVariants as wanted
use Rattle.fab_orders.specs.Totals.{total}
use Rattle.fab_orders.specs.Starts.{HasPlaceFor}
use Rattle.fab_orders.specs.Orders.{with_save, IsAbove}
use Rattle.fab_rounds.specs.Ledgers.{all_come, all_gone, found_there, put_there, reach_in, AreFirsts, DeskFacts, IsFinding, IsKept, IsLedger, IsSameRun, IsSound, KeepsBalance, KeepsReach}

abbrev pub is_watch : Wanted → Bool
is_watch (wanted.Move g) = false
is_watch wanted.Stop = false
is_watch (wanted.Save name) = false
is_watch wanted.Watch = true

-- the next of these orders is one to tenant t, and a watch or not
pub record IsNext (t : ℕ) (watch : Bool) (orders : List Order) : Type 0 where
  pub some : 0 < length orders
  pub each : (front : List Order) (o : Order) → orders ≡ front ++ o ∷ [] → (o.tenant ≡ t) × (is_watch o.wanted ≡ watch)

-- ---- looking for a tenant

-- but for what the first seats know, the ledger is as before: nobody was put in line or came out there
pub record Seeks (desks : List DeskFacts) (l l' : Ledger) : Type 0 where
  pub rest : l' ≡ record l { firsts = l'.firsts }
  pub firsts : AreFirsts desks l'.firsts.items
  pub puts : (f : ℕ → Token → ℕ) → total (put_there f) l'.firsts.items ≡ total (put_there f) l.firsts.items
  pub outs : (f : ℕ → Token → ℕ) → total (found_there f) l'.firsts.items ≡ total (found_there f) l.firsts.items
  pub reach : KeepsReach l l'

-- tenant n came out on fabric g; but for what the first seats know, the ledger is as before
pub record TakesOut (desks : List DeskFacts) (n g : ℕ) (t : Transit) (l l' : Ledger) : Type 0 where
  pub rest : l' ≡ record l { firsts = l'.firsts }
  pub firsts : AreFirsts desks l'.firsts.items
  pub puts : (f : ℕ → Token → ℕ) → total (put_there f) l'.firsts.items ≡ total (put_there f) l.firsts.items
  pub outs : (f : ℕ → Token → ℕ) → total (found_there f) l'.firsts.items ≡ total (found_there f) l.firsts.items + f g (token_of t)
  pub reach : KeepsReach l l'
  pub number : number_of t.parcel ≡ n
  pub there : g < length desks
  pub place : HasPlaceFor l.labels.value.items g t.parcel
  pub point : (p : Point) × IsPointOf t.parcel p
  pub withdrawn : IsWithdrawn t
  pub far : ticks_of t.parcel ≤ reach_in n l'.firsts.items
  pub finding : (s : Snapshot Transit) → s.value ≡ t → IsFinding l.loaded.value.items l.causes.items n (ticks_of t.parcel) (record { fabric = g; transit = s })

-- what came of a look at one desk
abbrev pub DidSeek : List DeskFacts → (n g : ℕ) → Option Transit → Ledger → Ledger → Type 0
DidSeek desks n g None l l' = Seeks desks l l'
DidSeek desks n g (Some t) l l' = TakesOut desks n g t l l'

-- the next order isn't among those that wait any more, and its tenant came out on fabric g
pub record IsHolding (desks : List DeskFacts) (o : Order) (g : ℕ) (t : Transit) (l : Ledger) : Type 0 where
  pub before : Ledger
  pub out : Ledger
  pub ledger : IsLedger desks before
  pub takes : TakesOut desks o.tenant g t before out
  pub rest : l ≡ record out { orders = l.orders }
  pub orders : out.orders.items ≡ l.orders.items ++ o ∷ []

-- ---- what is done with one that was taken out

-- it is stopped, and else the same
pub record IsStopped (t t' : Transit) : Type 0 where
  pub token : token_of t' ≡ token_of t
  pub stopped : is_stopped t'.parcel ≡ true
  pub parcel : IsParcel t'.parcel

-- it has one more snapshot, and is else the same
pub record Saves (name : List ℕ) (t t' : Transit) : Type 0 where
  pub token : token_of t' ≡ with_save name (token_of t)
  pub point : (p : Point) × IsPointOf t'.parcel p × (ended p ≡ None)

-- ---- answers

-- the next order has its answer: this was in hand, and is put in line or among those that have ended
pub record Answers (desks : List DeskFacts) (held : (Token → ℕ) → ℕ) (l l' : Ledger) : Type 0 where
  pub ledger : IsLedger desks l'
  pub same : IsSameRun l l'
  pub moving : l'.moving ≡ l.moving
  pub balance : (f : Token → ℕ) → all_come f l' + all_gone f l + held f ≡ all_come f l + all_gone f l'
  pub reach : KeepsReach l l'

-- the tick that is told, unless the tenant had ended, isn't above this one
abbrev pub IsWithin : ℕ → Reached → Type 0
IsWithin m (reached.At k) = k ≤ m
IsWithin m (reached.Ended k) = ⊤

-- this may be told of the next order, for which nobody was taken out
pub record MayTell (r : Reached) (l : Ledger) : Type 0 where
  pub some : 0 < length l.orders.items
  pub sound : (front : List Order) (o : Order) → l.orders.items ≡ front ++ o ∷ [] → IsSound l.loaded.value.items l.causes.items l.done.items o.tenant o.wanted r None
  pub far : (front : List Order) (o : Order) → l.orders.items ≡ front ++ o ∷ [] → IsWithin (reach_in o.tenant l.firsts.items) r
  pub above : (front : List Order) (o : Order) → l.orders.items ≡ front ++ o ∷ [] → IsAbove l.answers.items o.tenant o.wanted r

-- it has that answer
pub record Tells (l l' : Ledger) : Type 0 where
  pub kept : IsKept l'
  pub same : IsSameRun l l'
  pub firsts : l'.firsts ≡ l.firsts
  pub moving : l'.moving ≡ l.moving
  pub done : l'.done ≡ l.done
  pub balance : KeepsBalance l l'
  pub fewer : (o : Order) × (l.orders.items ≡ l'.orders.items ++ o ∷ [])
