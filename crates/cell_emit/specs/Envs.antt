-- The slots that expressions and statements read, and what they hold (IEEE 1364-2005, clauses 5 and 9; own).
use Rattle.std.specs.Prelude.{◌≡◌, ℕ, ◌+◌, ◌-◌, ◌<◌, ◌%◌, ◌^◌, nat_lt, List, [], length, slice_get, slice_index, slice_index_or, Option, Some, None, ⊤, if◌then◌else◌}
use Rattle.vl_sites.specs.vl_design.specs.Syntax.{Row}
use Rattle.vl_sites.specs.vl_design.specs.Width.{Names, signal_form}
use Rattle.vl_sites.specs.vl_design.specs.Value.{Sample, words_of, value_of}
use Rattle.vl_sites.specs.vl_design.specs.Sound.{HasValue, IsSignal, IsMemory}
use Rattle.vl_sites.specs.vl_design.specs.Laws.{IsFine}
use Rattle.cell_form.specs.Data.{ListData, BankData}
use Rattle.cell_form.specs.Sound.{Shape}
use Rattle.cell_emit.specs.Slots.{held, width_at, IsIn, AreSound}
use Rattle.cell_emit.specs.declared.at.At.{At}

pub record Env : Type 0 where
  pub first : ℕ
  pub slots : List (Option ℕ)
  pub time : ℕ
  pub answer : ℕ
  pub here : ℕ
  pub away : ℕ

abbrev pub env_of : At → Env
env_of a = record { first = a.first; slots = a.slots.items; time = a.time; answer = a.answer; here = a.here; away = a.away }

-- the entry of a signal by its number
abbrev pub entry : Env → ℕ → Option ℕ
entry at k = if nat_lt k at.first then None else slice_index_or at.slots (k - at.first) None

-- ---- what is there

-- a slot of w bits
pub record IsSlot (l : ListData) (r w : ℕ) : Type 0 where
  pub there : IsIn l r
  pub width : width_at l r ≡ w

abbrev pub IsEntry : ListData → ℕ → Option ℕ → Type 0
IsEntry l w None = ⊤
IsEntry l w (Some r) = IsSlot l r w

-- a slot holds this number in every bank
abbrev pub Always : ListData → ℕ → ℕ → Type 0
Always l r n = (s : Shape) (b : BankData) → AreSound s l → held b l r ≡ n

-- each signal that has a value has one word
pub record HasOneWord (rows : List Row) : Type 0 where
  pub one : (k : ℕ) (r : Row) → slice_get rows k ≡ Some r → HasValue r.kind → r.words ≡ 1

pub record Fits (names : Names) (l : ListData) (at : Env) : Type 0 where
  pub many : at.first + length at.slots ≡ length names.rows
  pub signals : (k : ℕ) → IsSignal names k → IsEntry l (signal_form names.rows k).width (entry at k)
  pub time : IsSlot l at.time 64
  pub answer : IsSlot l at.answer 32
  pub here : IsSlot l at.here 1
  pub away : IsSlot l at.away 1
  pub is_here : Always l at.here 0
  pub is_away : Always l at.away 1

-- the memory of an entry is there
abbrev pub IsThere : Shape → Option ℕ → Type 0
IsThere s None = ⊤
IsThere s (Some m) = m < s.mems

-- each memory is there
abbrev pub HasMemories : Names → Env → Shape → Type 0
HasMemories names at s = (m : ℕ) → IsMemory names m → IsThere s (entry at m)

-- ---- what they hold

-- the value of an entry
abbrev pub held_or : BankData → ListData → Option ℕ → ℕ
held_or b l None = 0
held_or b l (Some r) = held b l r

-- a word of the memory of an entry
abbrev pub word_or : BankData → Option ℕ → ℕ → ℕ
word_or b None j = 0
word_or b (Some m) j = slice_index (slice_index_or b.mems m []) j

-- the memory of an entry has so many words
abbrev pub HasWords : BankData → Option ℕ → ℕ → Type 0
HasWords b None n = ⊤
HasWords b (Some m) n = length (slice_index_or b.mems m []) ≡ n

-- slots and memories hold what is read
pub record Stands (names : Names) (b : BankData) (l : ListData) (at : Env) (s : Sample) : Type 0 where
  pub fine : IsFine names.rows s.values
  pub values : (k : ℕ) → IsSignal names k → value_of s.values k ≡ held_or b l (entry at k)
  pub words : (m j : ℕ) → IsMemory names m → slice_index (words_of s.values m) j ≡ word_or b (entry at m) j
  pub many : (m : ℕ) → IsMemory names m → HasWords b (entry at m) (length (words_of s.values m))
  pub time : held b l at.time ≡ s.time % 2 ^ 64
  pub answer : held b l at.answer ≡ s.answer
