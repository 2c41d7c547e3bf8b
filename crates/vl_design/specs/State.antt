-- The state of a run (IEEE 1364-2005, clause 11.3).
use Rattle.std.specs.Prelude.{ℕ, ◌+◌, ℤ, Bool, List, [], ◌∷◌, slice_index, slice_set}
use Rattle.vl_base.specs.declared.files.OpenFile.{OpenFile}
use Rattle.vl_base.specs.Selects.{placed}
use Rattle.vl_design.specs.Syntax.{Row}
use Rattle.vl_design.specs.Width.{signal_form}
use Rattle.vl_design.specs.Value.{Sample, words_of}

-- an update: `width` bits of a word of a signal, from the bit `low` on
pub record Update : Type 0 where
  pub signal : ℕ
  pub word : ℕ
  pub low : ℤ
  pub width : ℕ
  pub value : ℕ

pub record State : Type 0 where
  -- each signal's words
  pub values : List (List ℕ)
  -- the pending nonblocking updates, in the order of their assignments
  pub later : List Update
  -- the bytes printed
  pub printed : List ℕ
  -- the open files
  pub table : List OpenFile
  -- the names of the snapshots asked for in this tick, in order
  pub saves : List (List ℕ)
  -- the answer of the system function called last
  pub answer : ℕ
  -- the ticks begun
  pub ticks : ℕ
  -- a `$finish` was done
  pub finished : Bool
  -- how many counted acts were done
  pub count : ℕ

-- what expressions read of a state
abbrev pub sample : State → Sample
sample s = record { values = s.values; time = s.ticks; answer = s.answer }

-- one more counted act is done
abbrev pub counted : State → State
counted s = record s { count = s.count + 1 }

-- the values after an update: bits that the signal doesn't have, and words that it doesn't have, are left out (clauses
-- 5.2.1 and 5.2.2)
abbrev pub with_update : List Row → List (List ℕ) → Update → List (List ℕ)
with_update rows values u =
    let words = words_of values u.signal in
    slice_set values u.signal (slice_set words u.word (placed (signal_form rows u.signal).width (slice_index words u.word) u.low u.width u.value))

-- the values after updates in order
abbrev pub all_updated : List Row → List (List ℕ) → List Update → List (List ℕ)
all_updated rows values [] = values
all_updated rows values (u ∷ us) = all_updated rows (with_update rows values u) us
