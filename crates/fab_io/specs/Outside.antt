-- What stores and sinks tell, which reads failed, and when a count rose.
use Rattle.std.specs.Prelude.{◌≡◌, ◌≢◌, ℕ, ◌<◌, ◌≤◌, ◌^◌, ◌-◌, List, [], ◌∷◌, length, if◌then◌else◌, Option, Some, None, IfSome, Result, Ok, Err, ◌⊎◌}
use Rattle.std.specs.Str.{bytes_eq}
use Rattle.fab_io.specs.declared.store.ReadError.{ReadError}
use Rattle.fab_io.specs.declared.store.ReadError.TheVariants as read

-- the files that a store tells: the bytes of each name that is there
abbrev pub Files : Type 0
Files = List ℕ → Option (List ℕ)

-- the files after one of them is written
abbrev pub with_file : List ℕ → List ℕ → Files → Files
with_file name bytes files = λ asked. if bytes_eq asked name then Some bytes else files asked

-- the greatest count, at which a count stands still
abbrev pub most_count : ℕ
most_count = 2 ^ 64 - 1

-- a count rose; one that stands at its end counts as risen
abbrev pub HasRisen : ℕ → ℕ → Type 0
HasRisen before after = (before < after) ⊎ (most_count ≤ after)

-- the store tells its files, and has none of this name
abbrev pub IsAbsent : Option Files → List ℕ → Type 0
IsAbsent None name = ⊥
IsAbsent (Some files) name = files name ≡ None

-- the store tells its files, and the one of this name has more than `most` bytes
abbrev pub IsTooLong : Option Files → List ℕ → ℕ → Type 0
IsTooLong None name most = ⊥
IsTooLong (Some files) name most = (bytes : List ℕ) × (files name ≡ Some bytes) × (most < length bytes)

-- where the store tells its files, the one of this name has these bytes
abbrev pub IsTold : Option Files → List ℕ → List ℕ → Type 0
IsTold told name bytes = IfSome told (λ files. files name ≡ Some bytes)

-- no told file but the named one is another than before
abbrev pub ChangesOnly : Option Files → Option Files → List ℕ → Type 0
ChangesOnly None new name = new ≡ None
ChangesOnly (Some old) new name =
    (files : Files) × (new ≡ Some files) × ((asked : List ℕ) → asked ≢ name → files asked ≡ old asked)

-- ---- reads that failed

-- a read that failed: the name that was asked for, and why
pub record Miss : Type 0 where
  pub path : List ℕ
  pub why : ReadError

-- that of a read of a name that was answered so, if it failed: want of memory is no failure of the store
abbrev pub miss_of : List ℕ → ReadError → List Miss
miss_of name read.NotThere = record { path = name; why = read.NotThere } ∷ []
miss_of name read.TooLong = record { path = name; why = read.TooLong } ∷ []
miss_of name read.Failed = record { path = name; why = read.Failed } ∷ []
miss_of name read.Memory = []

abbrev pub misses : {X : Type 0} → List ℕ → Result X ReadError → List Miss
misses name (Ok x) = []
misses name (Err why) = miss_of name why
