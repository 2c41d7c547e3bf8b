-- Histories: how one begins another, the notes of one seat, and how far a tenant's notes reach.
use Rattle.std.specs.Prelude.{◌≡◌, ℕ, ◌+◌, ◌<◌, ◌==◌, List, [], ◌∷◌, ◌++◌, length, slice_index, max, filter, if◌then◌else◌, nat_lt, All}
use Rattle.fab_lock.specs.declared.entry.Entry.{Entry}

-- a history begins with another one
abbrev pub StartsWith : {N : Type 0} → List N → List N → Type 0
StartsWith {N} history front = (rest : List N) × (history ≡ front ++ rest)

-- the longer of two histories
abbrev pub longer : {N : Type 0} → List N → List N → List N
longer xs ys = if nat_lt (length xs) (length ys) then ys else xs

module _ {N : Type 0} (entry : N → Entry) where
  -- the notes of a history that bear a seat's number
  abbrev pub notes_of : ℕ → List N → List N
  notes_of number = filter (λ note. (entry note).seat == number)

  -- the greatest tick to which a tenant's notes go, and 0 without any
  abbrev pub high : ℕ → List N → ℕ
  high tenant [] = 0
  high tenant (note ∷ notes) =
      if (entry note).tenant == tenant then max (entry note).to (high tenant notes) else high tenant notes

  -- there are so many words, and each is the greatest tick of its tenant in the history
  abbrev pub Reaches : ℕ → List ℕ → List N → Type 0
  Reaches count words history = (length words ≡ count) × ((i : ℕ) → i < count → slice_index words i ≡ high i history)

  -- the history is the one taken and then notes that bear this number
  abbrev pub Adds : ℕ → List N → List N → Type 0
  Adds number taken history =
      (added : List N) × (history ≡ taken ++ added) × All (λ note. (entry note).seat ≡ number) added
