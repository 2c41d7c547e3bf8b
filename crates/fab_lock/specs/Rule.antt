-- The rule of the lock's table: what holds between any two steps of any threads.
-- Slot 0 has the value while no seat holds it. Word 0 is 1 while a seat holds it, else 0. Word i + 1 is the progress word i.
use Rattle.std.specs.Prelude.{◌≡◌, ◌≢◌, ℕ, ◌+◌, ◌<◌, ◌≤◌, true, List, [], ◌∷◌, length, slice_index, Option, Some, None, All}
use mathlib.Core.Option.{some}
use mathlib.Core.Option as maybe
use lib.ListN.{get_elem?}
use Rattle.atomic_table.specs.Table.{State}
use Rattle.fab_lock.specs.declared.entry.Entry.{Entry}
use Rattle.fab_lock.specs.declared.view.View.{View}
use Rattle.fab_lock.specs.Histories.{StartsWith, notes_of, high}

-- who holds the value: no seat, or the seat whose view stands at this place among the table's views
pub data Holder : Type 0 where
  no_seat : Holder
  the_seat : ℕ → Holder

-- At home the value has the lock's label and this history, and each progress word is the greatest tick of its tenant.
-- While it is out the words may be ahead of that, and are never behind.
module _ {T L N : Type 0} (label : T → L) (history : T → List N) (entry : N → Entry) (here : L) (count : ℕ) where
  abbrev pub IsPlaced : List ℕ → List (maybe.Option (Option T)) → List N → Holder → Type 0
  IsPlaced words slots now no_seat =
      (slice_index words 0 ≡ 0) × ((i : ℕ) → i < count → slice_index words (i + 1) ≡ high entry i now)
      × ((x : T) × (get_elem? slots 0 ≡ some (some (Some x))) × (label x ≡ here) × (history x ≡ now))
  IsPlaced words slots now (the_seat j) =
      (slice_index words 0 ≡ 1) × ((i : ℕ) → i < count → high entry i now ≤ slice_index words (i + 1))

-- the notes of a number that belongs to no seat are just these
abbrev pub IsJoined : {N : Type 0} → (N → Entry) → (ℕ → ℕ) → List N → ℕ × List N → Type 0
IsJoined entry owner now seat = (owner seat.0 ≡ 0) × (notes_of entry seat.0 now ≡ seat.1)

-- a progress word that there is isn't below this tick
abbrev pub IsKnown : ℕ → List ℕ → ℕ × ℕ → Type 0
IsKnown count words word = (word.0 < count) × (word.1 ≤ slice_index words (word.0 + 1))

-- What the view v, which stands at place j, says is true. The number n belongs to the seat at place j where owner n is j + 1, and to none where it is 0
pub record IsTrueView {L N : Type 0} (entry : N → Entry) (here : L) (count : ℕ) (owner : ℕ → ℕ) (words : List ℕ) (now : List N) (holder : Holder) (j : ℕ) (v : View L N) : Type 0 where
  -- it has the lock's label and number of words
  pub label : v.label ≡ Some here
  pub counts : v.count ≡ count
  -- the history begins with what it has seen
  pub begins : StartsWith now v.seen
  pub told : StartsWith now v.told
  -- it holds the value only where no other seat does, and then has the history and the words
  pub holds : v.holds ≡ true → (holder ≡ the_seat j) × (v.taken ≡ now) × (words ≡ 1 ∷ v.words)
  -- its numbers are its own
  pub ranged : (n : ℕ) → v.low ≤ n → n ≤ v.low + v.others → owner n ≡ j + 1
  -- of the notes that bear one of them all bear the lowest, and they are those that it gave
  pub own : notes_of entry v.low now ≡ v.own
  pub unused : (n : ℕ) → v.low < n → n ≤ v.low + v.others → notes_of entry n now ≡ []
  -- nobody has the numbers of the seats that were joined into it, and their notes are those that they gave
  pub joined : All (IsJoined entry owner now) v.joined
  -- no word is below the tick that it found there
  pub known : All (IsKnown count words) v.known

-- the seat that is said to hold the value does hold it
abbrev pub IsHeldBy : {L N : Type 0} → List (View L N) → Holder → Type 0
IsHeldBy views no_seat = Unit {0}
IsHeldBy {L} {N} views (the_seat j) = (v : View L N) × (get_elem? views j ≡ some v) × (v.holds ≡ true)

-- the rule
pub record KeepsRule {T L N : Type 0} (label : T → L) (history : T → List N) (entry : N → Entry) (here : L) (count : ℕ) (s : State (Option T) (View L N)) : Type 0 where
  -- the history, who holds the value, and who has which number
  pub now : List N
  pub holder : Holder
  pub owner : ℕ → ℕ
  pub wide : length s.words ≡ count + 1
  pub placed : IsPlaced label history entry here count s.words s.homes now holder
  pub held : IsHeldBy s.views holder
  -- all views but the spent ones are true
  pub each : (j : ℕ) (v : View L N) → get_elem? s.views j ≡ some v → v.label ≢ None → IsTrueView entry here count owner s.words now holder j v
