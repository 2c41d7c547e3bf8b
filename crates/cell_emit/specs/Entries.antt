-- The entries of signals that registers hold (own).
use Rattle.std.specs.Prelude.{◌≡◌, ℕ, true, false, if◌then◌else◌, ◌<◌, ◌%◌, ◌^◌, List, length, slice_get, slice_index, slice_index_or, Option, Some, None}
use Rattle.std.specs.List.{sum_by}
use Rattle.vl_sites.specs.vl_design.specs.Syntax.{Row}
use Rattle.vl_sites.specs.vl_design.specs.Sound.{IsWidth, HasValue, IsMem}
use Rattle.vl_sites.specs.Others.{is_other}
use Rattle.cell_form.specs.Data.{ListData, BankData}
use Rattle.cell_form.specs.Sound.{Shape}
use Rattle.cell_emit.specs.Slots.{held, AreSound}
use Rattle.cell_emit.specs.Envs.{IsSlot}

-- a slot of w bits that holds what a register holds, cut to them
pub record IsCopy (l : ListData) (w register r : ℕ) : Type 0 where
  pub slot : IsSlot l r w
  pub value : (s : Shape) (b : BankData) → AreSound s l → held b l r ≡ slice_index b.regs register % 2 ^ w

abbrev pub HasCopy : ListData → ℕ → ℕ → Option ℕ → Type 0
HasCopy l w register None = ⊥
HasCopy l w register (Some r) = IsCopy l w register r

-- an entry of a signal has a slot with its register's value; a loop variable or a clock has none; and that of a memory is its number
pub record ReadsRow (l : ListData) (r : Row) (place : ℕ) (e : Option ℕ) : Type 0 where
  pub signal : HasValue r.kind → is_other r.kind ≡ false → IsWidth r.width → HasCopy l r.width place e
  pub other : is_other r.kind ≡ true → e ≡ None
  pub memory : IsMem r.kind → e ≡ Some place

-- the register of a signal is there
abbrev pub HasRegister : Row → ℕ → Shape → Type 0
HasRegister r place s = HasValue r.kind → IsWidth r.width → place < s.regs

-- so for each signal
pub record ReadsRows (l : ListData) (rows : List Row) (places : List ℕ) (es : List (Option ℕ)) : Type 0 where
  pub many : length es ≡ length rows
  pub each : (k : ℕ) (r : Row) → slice_get rows k ≡ Some r → ReadsRow l r (slice_index places k) (slice_index_or es k None)

abbrev pub HasRegisters : List Row → List ℕ → Shape → Type 0
HasRegisters rows places s = (k : ℕ) (r : Row) → slice_get rows k ≡ Some r → HasRegister r (slice_index places k) s

-- how many signals are read: loop variables and clocks aren't
abbrev pub read_count : List Row → ℕ
read_count rows = sum_by (λ r. if is_other r.kind then 0 else 1) rows
