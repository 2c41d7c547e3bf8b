-- What each atomic step tells the seat that makes it: its view and the slot that it has, before and after.
use Rattle.std.specs.Prelude.{◌≡◌, ◌≢◌, Bool, ℕ, ◌-◌, ◌≤◌, true, false, List, [], ◌∷◌, slice_index, Option, Some, None, All}
use Rattle.atomic_table.specs.Table.{Me, Step, rest}
use Rattle.fab_lock.specs.declared.entry.Entry.{Entry}
use Rattle.fab_lock.specs.declared.view.View.{View}
use Rattle.fab_lock.specs.Histories.{StartsWith, high, longer}
use Rattle.fab_lock.specs.Facts.{Finds}
use Rattle.fab_lock.specs.Views.{after_grab, after_give, after_post, after_glance, settled_view}

-- the history of the value that lies in a slot
abbrev pub history_in : {T N : Type 0} → (T → List N) → Option T → List N
history_in history None = []
history_in history (Some x) = history x

-- the history of the value in the slot that a seat has
abbrev pub history_had : {T N : Type 0} → (T → List N) → List (ℕ × Option T) → List N
history_had history [] = []
history_had history (slot ∷ slots) = history_in history slot.1

-- the slot that a seat has between its calls: the empty one, while it holds the value
abbrev pub slots_had : {T : Type 0} → Bool → List (ℕ × Option T)
slots_had true = (0, None) ∷ []
slots_had false = []

module _ {T L N : Type 0} where
  -- where word 0 was 0 the seat has slot 0 with a value of its label that it may find; else nothing changed
  abbrev pub Grabs : (T → L) → (T → List N) → (N → Entry) → Step (Option T) → Me (Option T) (View L N) → ℕ → Me (Option T) (View L N) → Type 0
  Grabs label history entry step before found after =
      (found ≡ 0 → (x : T) × (words : List ℕ) × (before.0.label ≡ Some (label x)) × Finds entry (history x) words before.0 × (after ≡ (after_grab before.0 (history x) words, (0, Some x) ∷ before.1)))
      × (found ≢ 0 → after ≡ before)

  -- the value in the slot that the seat had came home
  abbrev pub Releases : (T → List N) → Me (Option T) (View L N) → Me (Option T) (View L N) → Type 0
  Releases history before after = after ≡ (after_give before.0 (history_had history before.1), rest before.1)

  -- word i, the progress word i - 1, was set
  abbrev pub Posts : ℕ → ℕ → Me (Option T) (View L N) → Me (Option T) (View L N) → Type 0
  Posts i tick before after = after ≡ (after_post before.0 (i - 1) tick, before.1)

  -- what was found in it isn't below what the seat's history reaches, nor below what the seat found there before
  abbrev pub Glances : (N → Entry) → ℕ → Me (Option T) (View L N) → ℕ → Me (Option T) (View L N) → Type 0
  Glances entry i before found after =
      (after ≡ (after_glance before.0 (i - 1) found, before.1)) × (high entry (i - 1) before.0.seen ≤ found)
      × All (λ word. word.0 ≡ i - 1 → word.1 ≤ found) before.0.known

  -- the seat that holds the value finds the word that it knows
  abbrev pub Reads : ℕ → Me (Option T) (View L N) → ℕ → Me (Option T) (View L N) → Type 0
  Reads i before found after = (after ≡ before) × (before.0.holds ≡ true → found ≡ slice_index before.0.words (i - 1))

  -- the longer of two histories begins with both
  abbrev pub Settles : Me (Option T) (View L N) → Me (Option T) (View L N) → Type 0
  Settles before after =
      (after ≡ (settled_view before.0, before.1)) × StartsWith (longer before.0.seen before.0.told) before.0.seen
      × StartsWith (longer before.0.seen before.0.told) before.0.told
