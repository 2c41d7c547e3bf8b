-- Counts, and tables of the sizes of modules.
use Rattle.std.specs.Prelude.{◌≡◌, ℕ, zero, suc, ◌-◌, ◌+◌, ◌^◌, ◌≤◌, nat_lt, min, Bool, true, false, ◌||◌, List, [], ◌∷◌, ◌++◌, map, fold, length, slice_get, if◌then◌else◌}
use Rattle.std.specs.Option.{option_map_or}
use Rattle.std.specs.Str.{bytes_eq}
use Rattle.std.specs.declared.alloc.Global.{Global}
use Rattle.std.specs.declared.vec.Vec.{Vec}
use Rattle.elab_plain.specs.vl_flat.specs.Items as x
use Rattle.elab_plain.specs.vl_flat.specs.Kinds.{signals_of}
use Rattle.elab_plain.specs.vl_flat.specs.Environments as e
use Rattle.elab_kinds.specs.declared.counts.Counts.{Counts}
use Rattle.elab_kinds.specs.declared.index.Index.{Index}
use Rattle.elab_kinds.specs.declared.sizes.Sizes.{Sizes}
use Rattle.elab_kinds.specs.Places.{place_of}

abbrev pub counts_of : Counts → e.Counts
counts_of c = record { signals = c.signals; functions = c.functions }

-- the greatest number that is kept
abbrev pub most_numbers : ℕ
most_numbers = 2 ^ 32 - 1

-- what is kept of a number in 32 bits: from the greatest on, that
abbrev pub kept_number : ℕ → ℕ
kept_number n = min most_numbers n

abbrev pub kept : e.Counts → e.Counts
kept c = record { signals = kept_number c.signals; functions = kept_number c.functions }

-- what is kept of the sizes at a depth
abbrev pub kept_size : ℕ → List x.Module → List ℕ → e.Counts
kept_size n ms t = kept (e.size n ms t)

-- how many of these declarations are of names that aren't known before
abbrev pub count_new : (List ℕ → Bool) → List x.Declared → ℕ
count_new known [] = 0
count_new known (d ∷ ds) = (if known d.name.name then 0 else 1) + count_new (λ t. known t || bytes_eq t d.name.name) ds

-- what is kept of how many signals a module declares
abbrev pub own_signals : x.Module → ℕ
own_signals m = kept_number (length (e.new_ones [] (signals_of m)))

-- the counts at a place of a round; none past its end
abbrev pub counts_at : List Counts → ℕ → e.Counts
counts_at round p = option_map_or counts_of (slice_get round p) e.no_more

-- what a round tells of a name
abbrev pub told : Index → List Counts → List ℕ → e.Counts
told index round t = option_map_or (counts_at round) (place_of index t) e.no_more

-- the counts of items one after another
abbrev pub items_counts : (List ℕ → e.Counts) → e.Counts → List x.Item → e.Counts
items_counts sizes c items = fold (λ c item. e.plus c (e.item_counts sizes item)) c items

-- the round for a depth: the last one for each that is deeper
abbrev pub round_at : List (Vec Counts Global) → ℕ → List Counts
round_at rounds zero = []
round_at rounds (suc n) = option_map_or (λ (v : Vec Counts Global). v.items) (slice_get rounds (min n (length rounds - 1))) []

-- what is kept of the counts of the modules in the round behind a round
abbrev pub next_counts : Index → List x.Module → List Counts → List e.Counts
next_counts index ms round = map (λ m. kept (e.module_counts (told index round) m)) ms

-- the rounds have grown by the next one; or they stay, and the next one is the last again
abbrev pub Grows : Index → List x.Module → List (Vec Counts Global) → List (Vec Counts Global) → Bool → Type 0
Grows index ms old new true =
    (v : Vec Counts Global) × (new ≡ old ++ v ∷ []) × (map counts_of v.items ≡ next_counts index ms (round_at old (length old)))
Grows index ms old new false = (new ≡ old) × (map counts_of (round_at old (length old)) ≡ next_counts index ms (round_at old (length old)))

-- what the tables tell of a name at a depth
abbrev pub size_of : Sizes → ℕ → List ℕ → e.Counts
size_of s n t = told s.index (round_at s.rounds.items n) t

-- the tables have what is kept of these sizes, up to the deepest level
abbrev pub Tells : Sizes → (ℕ → List ℕ → e.Counts) → Type 0
Tells s sizes = (n : ℕ) → n ≤ 129 → size_of s n ≡ (λ t. kept (sizes n t))

-- the tables have what is kept of the sizes of these modules
abbrev pub IsSizes : Sizes → List x.Module → Type 0
IsSizes s ms = Tells s (λ n. e.size n ms)

-- the most signals, and the most functions, that are numbered
abbrev pub most_numbered : ℕ
most_numbered = 2 ^ 30

-- more are not
abbrev pub are_vast : e.Counts → Bool
are_vast c = nat_lt most_numbered c.signals || nat_lt most_numbered c.functions
