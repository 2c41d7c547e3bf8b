-- A bank in which the cells of a list have their values so far.
use Rattle.std.specs.Prelude.{ℕ, ◌≡◌, ◌+◌, ◌<◌, ◌≤◌, List, [], map, length, slice_index}
use Rattle.cell_form.specs.Data.{CellData, BankData}
use Rattle.cell_form.specs.Values.{slot_at, slots_of}
use Rattle.cell_form.specs.Sound.{AreCells, shape_of}

abbrev pub widths_of : List CellData → List ℕ
widths_of cells = map (λ c. c.width) cells

-- the slots from `first` on hold the values of these cells
pub record Holds (first : ℕ) (b : BankData) (cells : List CellData) : Type 0 where
  pub values : (k : ℕ) → k < length cells → slice_index b.slots (first + k) ≡ (slot_at (slots_of first b.regs b.mems cells) k).value
  pub within : first + length cells ≤ length b.slots
  pub sound : AreCells (shape_of b) first [] cells
