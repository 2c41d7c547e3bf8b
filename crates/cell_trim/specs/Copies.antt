-- Copies of marked cells.
use Rattle.std.specs.Prelude.{◌≡◌, ℕ, ◌+◌, ◌-◌, ◌<◌, ◌≤◌, ◌⊎◌, Bool, true, List, [], length, drop, slice_index, Any, Contains}
use Rattle.cell_emit.specs.cell_form.specs.Data.{CellData}
use Rattle.cell_emit.specs.cell_form.specs.Values.{slot_at, slots_of}
use Rattle.cell_emit.specs.cell_form.specs.Sound.{Shape, IsAmong, AreCells}
use Rattle.cell_trim.specs.Marks.{on, Names, args_at}

-- new cells with slots from `next` on show the marked ones of cells with slots from `first` on, at these numbers
pub record Shows (first next : ℕ) (marks : List Bool) (cells : List CellData) (numbers : List ℕ) (new : List CellData) : Type 0 where
  pub long : length numbers ≡ length cells
  pub few : length new ≤ length cells
  pub there : (k : ℕ) → k < length cells → on marks k ≡ true → IsAmong next (length new) (slice_index numbers k)
  pub same : (regs : List ℕ) (mems : List (List ℕ)) (k : ℕ) → k < length cells → on marks k ≡ true →
      slot_at (slots_of next regs mems new) (slice_index numbers k - next) ≡ slot_at (slots_of first regs mems cells) k
  pub sound : (s : Shape) → AreCells s first [] cells → AreCells s next [] new

-- a slot is an operand of a cell behind the one with index i
abbrev pub IsOperand : ℕ → List CellData → ℕ → Type 0
IsOperand slot cells i = Any (λ (c : CellData). Contains c.args slot) (drop (i + 1) cells)

-- slots name the cell with index k, or a marked one does, from the n-th on
abbrev pub IsOwed : ℕ → ℕ → List ℕ → List Bool → List CellData → ℕ → Type 0
IsOwed first n slots marks cells k =
    Names first slots k ⊎ ((j : ℕ) × (n ≤ j) × (on marks j ≡ true) × Names first (args_at cells j) k)

-- each new cell has the number of one of the first n cells, and is an operand, or still owed
abbrev pub AreOwed : ℕ → ℕ → ℕ → List ℕ → List Bool → List CellData → List ℕ → List CellData → Type 0
AreOwed first next n slots marks cells numbers new = (i : ℕ) → i < length new →
    (k : ℕ) × (k < n) × (slice_index numbers k ≡ next + i) × (IsOperand (next + i) new i ⊎ IsOwed first n slots marks cells k)
