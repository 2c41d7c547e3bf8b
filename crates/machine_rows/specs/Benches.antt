-- Where the signals of a design stand in a bank (own).
use Rattle.std.specs.Prelude.{◌≡◌, ℕ, ◌<◌, ◌≤◌, List, length, slice_get, slice_index, Some}
use Rattle.vl_design.specs.Syntax.{Row}
use Rattle.vl_design.specs.Sound.{HasValue, IsMem}
use Rattle.cell_emit.specs.cell_form.specs.declared.bank.Bank.{Bank}

-- the register of a signal, or the number of a memory, where there are so many
pub record IsPlaced (r : Row) (place regs mems : ℕ) : Type 0 where
  pub signal : HasValue r.kind → place < regs
  pub memory : IsMem r.kind → place < mems

pub record ArePlaced (rows : List Row) (places : List ℕ) (regs mems : ℕ) : Type 0 where
  pub many : length places ≡ length rows
  pub each : (k : ℕ) (r : Row) → slice_get rows k ≡ Some r → IsPlaced r (slice_index places k) regs mems

-- no fewer registers and memories
pub record Extends (old new : Bank) : Type 0 where
  pub regs : length old.regs.items ≤ length new.regs.items
  pub mems : length old.mems.items ≤ length new.mems.items
