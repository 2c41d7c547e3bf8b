-- That cells do what a statement does where its path is taken. A path is a slot of one bit that holds 0 where the statement is
-- executed, and 1 where it isn't (own).
use Rattle.std.specs.Prelude.{◌≡◌, ℕ, ◌≤◌, ℤ, ◌==◌, Bool, false, List, Option, ⊤, if◌then◌else◌}
use Rattle.vl_sites.specs.vl_design.specs.declared.design.LowestBit.{LowestBit}
use Rattle.vl_base.specs.Value.{reading}
use Rattle.vl_base.specs.Selects.{placed}
use Rattle.vl_sites.specs.vl_design.specs.Width.{Names, signal_form}
use Rattle.vl_sites.specs.vl_design.specs.Value.{lowest_bit}
use Rattle.vl_sites.specs.vl_design.specs.Sound.{IsSignal, IsMemory}
use Rattle.vl_sites.specs.vl_design.specs.State.{State, Update, sample, with_update, all_updated}
use Rattle.cell_form.specs.Data.{ListData, BankData}
use Rattle.cell_form.specs.Sound.{Shape}
use Rattle.cell_emit.specs.Slots.{held, width_at, IsIn, AreSound, Longer, Nothing}
use Rattle.cell_emit.specs.declared.place.Place.{Place}
use Rattle.cell_emit.specs.declared.place.Place.TheVariants as p
use Rattle.cell_emit.specs.Envs.{Env, entry, held_or, HasOneWord, Fits, HasMemories, Stands}

-- what was done where the path is taken, else what was there
abbrev pub on : ℕ → State → State → State
on off done s = if off == 0 then done else s

-- all but the entries of signals is as it was
pub record Keeps (names : Names) (at at' : Env) : Type 0 where
  pub first : at'.first ≡ at.first
  pub time : at'.time ≡ at.time
  pub answer : at'.answer ≡ at.answer
  pub here : at'.here ≡ at.here
  pub away : at'.away ≡ at.away
  pub memories : (m : ℕ) → IsMemory names m → entry at' m ≡ entry at m

-- with at most n cells more, they do what f does where the path is taken
pub record Does (names : Names) (n : ℕ) (f : State → State) (off : ℕ) (at at' : Env) (old new : ListData) : Type 0 where
  pub longer : Longer (HasMemories names at) n old new
  pub fits : Fits names new at'
  pub keeps : Keeps names at at'
  pub alive : (t : State) → t.finished ≡ false → (f t).finished ≡ false
  pub does : (s : Shape) (b : BankData) (t : State) → AreSound s old → t.finished ≡ false → Stands names b old at (sample t) →
      Stands names b new at' (sample (on (held b old off) (f t) t))

-- ---- one assignment

-- the lowest bit that is assigned: a constant, or by an index in a slot
pub data Low : Type 0 where
  Constant : (low : ℤ) → Low
  By : (index : ℕ) (signed : Bool) (from : LowestBit) → Low

abbrev pub low_of : Place → Low
low_of (p.Constant low) = Constant low
low_of (p.By index signed from) = By index signed from

-- its slot is there
abbrev pub IsLow : ListData → Low → Type 0
IsLow l (Constant low) = ⊤
IsLow l (By index signed from) = IsIn l index

abbrev pub low_in : BankData → ListData → Low → ℤ
low_in b l (Constant low) = low
low_in b l (By index signed from) = lowest_bit from (reading signed (width_at l index) (held b l index))

-- the update of a part in a slot to a signal
abbrev pub update_in : BankData → ListData → ℕ → Low → ℕ → Update
update_in b l signal low part = record { signal = signal; word = 0; low = low_in b l low; width = width_at l part; value = held b l part }

-- the value of w bits of an entry with a part written to it where the path is taken, else as it was
abbrev pub written_in : BankData → ListData → ℕ → Option ℕ → Low → ℕ → ℕ → ℕ
written_in b l w e low part off = if held b l off == 0 then placed w (held_or b l e) (low_in b l low) (width_at l part) (held b l part) else held_or b l e

-- the same of a value of so many bits
abbrev pub on_path : BankData → ListData → ℕ → ℕ → ℕ → ℤ → ℕ → ℕ → ℕ
on_path b l off w before low width value = if held b l off == 0 then placed w before low width value else before

-- ---- the index of a path: 0 where it is taken, else beyond each bit

abbrev pub IsAway : ℕ → Type 0
IsAway n = (n ≡ 0 → ⊥) → 256 ≤ n

-- with at most n cells more, a slot holds it
pub record Distant (n : ℕ) (old new : ListData) (r off : ℕ) : Type 0 where
  pub longer : Longer Nothing n old new
  pub there : IsIn new r
  pub value : (s : Shape) (b : BankData) → AreSound s old → held b new r ≡ (if held b old off == 0 then 0 else 511)

-- a signal of so many bits that may have an entry
pub record IsWritable (names : Names) (l : ListData) (at : Env) (signal wide : ℕ) : Type 0 where
  pub one : HasOneWord names.rows
  pub fits : Fits names l at
  pub is_signal : IsSignal names signal
  pub width : (signal_form names.rows signal).width ≡ wide
  pub first : at.first ≤ signal

-- with at most n cells more, they make the update where the path is taken
pub record Assigns (names : Names) (n signal : ℕ) (low : Low) (part off : ℕ) (at at' : Env) (old new : ListData) : Type 0 where
  pub longer : Longer Nothing n old new
  pub fits : Fits names new at'
  pub keeps : Keeps names at at'
  pub does : (s : Shape) (b : BankData) (t : State) → AreSound s old → Stands names b old at (sample t) →
      Stands names b new at' (sample (on (held b old off) (record t { values = with_update names.rows t.values (update_in b old signal low part) }) t))

-- with at most n cells more, they make updates in order where the path is taken
pub record Updates (names : Names) (n : ℕ) (us : BankData → List Update) (off : ℕ) (at at' : Env) (old new : ListData) : Type 0 where
  pub longer : Longer Nothing n old new
  pub fits : Fits names new at'
  pub keeps : Keeps names at at'
  pub does : (s : Shape) (b : BankData) (t : State) → AreSound s old → Stands names b old at (sample t) →
      Stands names b new at' (sample (on (held b old off) (record t { values = all_updated names.rows t.values (us b) }) t))
