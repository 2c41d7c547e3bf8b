-- One cell more.
use Rattle.std.specs.Prelude.{◌≡◌, ℕ, ◌+◌, [], ◌∷◌, ◌++◌, length}
use Rattle.cell_form.specs.Data.{CellData, ListData}

-- a list with a cell behind, and the number of its slot
pub record Pushed (old new : ListData) (r : ℕ) (c : CellData) : Type 0 where
  pub is : new ≡ record old { cells = old.cells ++ c ∷ [] }
  pub slot : r ≡ old.first + length old.cells
