-- Combinational processes of a design over its values: what an evaluation gives, and when it changes nothing
-- (IEEE 1364-2005, clauses 6.1 and 9.7.5).
use Rattle.std.specs.Prelude.{◌≡◌, ℕ, ◌<◌, nat_lt, pos, Bool, true, false, List, length, slice_index, if◌then◌else◌}
use Rattle.vl_paths.specs.vl_base.specs.declared.files.File.{File}
use Rattle.vl_paths.specs.vl_base.specs.Selects.{bit_of}
use Rattle.vl_paths.specs.vl_design.specs.Syntax.{Row, Flat}
use Rattle.vl_paths.specs.vl_design.specs.Value.{words_of}
use Rattle.vl_paths.specs.vl_design.specs.State.{State}
use Rattle.vl_paths.specs.vl_design.specs.Exec.{exec}
use Rattle.vl_paths.specs.vl_design.specs.Functions.{scope_of, zeros}
use Rattle.vl_paths.specs.vl_design.specs.Queue.{is_comb, proc_at}
use Rattle.vl_paths.specs.Bits.{Bit}
use Rattle.vl_paths.specs.Graph.{drives}

-- a bit of a word of a signal
abbrev pub Place : Type 0
Place = Bit × ℕ

-- the bit in these values
abbrev pub bit_at : List (List ℕ) → Place → ℕ
bit_at values b = bit_of (slice_index (words_of values b.0.signal) b.1) (pos b.0.place)

-- the signal has more than one word
abbrev pub is_memory : List Row → ℕ → Bool
is_memory rows k = nat_lt 1 (length (words_of (zeros rows) k))

-- the process of a number is combinational
abbrev pub comb_at : Flat → ℕ → Bool
comb_at d i = is_comb (proc_at d i).kind

module _ (d : Flat) (files : List File) where
  -- the values behind an evaluation of a combinational process, where all but the values is as in s; any other process gives
  -- none
  abbrev pub run : State → ℕ → List (List ℕ) → List (List ℕ)
  run s i values = if comb_at d i then (exec (scope_of d files) (proc_at d i).body (record s { values = values })).values else values

  -- an evaluation of the process changes nothing: what it drives are its equations' values
  abbrev pub IsSolved : State → ℕ → Type 0
  IsSolved s i = run s i s.values ≡ s.values

  -- nor does one of any process
  abbrev pub AreSolved : State → Type 0
  AreSolved s = (i : ℕ) → i < length d.procs → IsSolved s i

-- the values are the same at each bit that no combinational process drives
abbrev pub SameOthers : Flat → List (List ℕ) → List (List ℕ) → Type 0
SameOthers d v w = (b : Place) → ((i : ℕ) → i < length d.procs → drives d i b.0 ≡ false) → bit_at v b ≡ bit_at w b

-- the values are the same at each bit that a combinational process drives
abbrev pub SameDriven : Flat → List (List ℕ) → List (List ℕ) → Type 0
SameDriven d v w = (i : ℕ) (b : Place) → drives d i b.0 ≡ true → bit_at v b ≡ bit_at w b
