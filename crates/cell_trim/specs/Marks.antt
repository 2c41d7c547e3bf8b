-- Marks of cells.
use Rattle.std.specs.Prelude.{◌≡◌, ℕ, ◌-◌, ◌<◌, ◌≤◌, ◌⊎◌, Bool, true, false, List, [], length, map, slice_index_or, Contains}
use Rattle.cell_emit.specs.cell_form.specs.Data.{CellData}

-- the mark of the cell with index k
abbrev pub on : List Bool → ℕ → Bool
on marks k = slice_index_or marks k false

-- one of these slots is that of the cell with index k, where the first cell has the slot `first`
abbrev pub Names : ℕ → List ℕ → ℕ → Type 0
Names first slots k = (a : ℕ) × (Contains slots a) × (a - first ≡ k)

-- the operands of the cell with index k
abbrev pub args_at : List CellData → ℕ → List ℕ
args_at cells k = slice_index_or (map (λ (c : CellData). c.args) cells) k []

-- of the first n cells those that these slots name are marked too, and no other cell
pub record Marked (first n : ℕ) (slots : List ℕ) (old new : List Bool) : Type 0 where
  pub long : length new ≡ length old
  pub stays : (k : ℕ) → on old k ≡ true → on new k ≡ true
  pub named : (k : ℕ) → k < n → Names first slots k → on new k ≡ true
  pub only : (k : ℕ) → on new k ≡ true → (on old k ≡ true) ⊎ ((k < n) × Names first slots k)

-- the operands of marked cells are marked
abbrev pub AreClosed : ℕ → List CellData → List Bool → Type 0
AreClosed first cells marks = (j k : ℕ) → on marks j ≡ true → k < j → Names first (args_at cells j) k → on marks k ≡ true

-- a marked cell comes later and has the slot of the cell with index k as an operand
abbrev pub IsUsed : ℕ → List CellData → List Bool → ℕ → Type 0
IsUsed first cells marks k = (j : ℕ) × (k < j) × (on marks j ≡ true) × Names first (args_at cells j) k

-- what marked cells need is marked, from the n-th cell on, and no other cell
pub record Closes (first n : ℕ) (cells : List CellData) (old new : List Bool) : Type 0 where
  pub long : length new ≡ length old
  pub stays : (k : ℕ) → on old k ≡ true → on new k ≡ true
  pub closed : (j k : ℕ) → n ≤ j → on new j ≡ true → k < j → Names first (args_at cells j) k → on new k ≡ true
  pub only : (k : ℕ) → on new k ≡ true → (on old k ≡ true) ⊎ IsUsed first cells new k

-- the cells that these slots need are marked, and no others
pub record AreMarked (first : ℕ) (cells : List CellData) (slots : List ℕ) (marks : List Bool) : Type 0 where
  pub long : length marks ≡ length cells
  pub named : (k : ℕ) → k < length cells → Names first slots k → on marks k ≡ true
  pub closed : AreClosed first cells marks
  pub only : (k : ℕ) → on marks k ≡ true → Names first slots k ⊎ IsUsed first cells marks k
