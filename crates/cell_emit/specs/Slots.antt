-- Lists of cells that get longer, and the slots of new cells.
use Rattle.std.specs.Prelude.{◌≡◌, ℕ, ◌-◌, ◌≤◌, List, [], ◌++◌, length, map, slice_index, ⊤}
use Rattle.cell_form.specs.Data.{CellData, ListData, BankData}
use Rattle.cell_form.specs.Values.{Slot, slot_at, slots_of}
use Rattle.cell_form.specs.Sound.{Shape, AreCells, IsAmong}

-- the slot of a number in a list, over the registers and memories of a bank
unfoldable pub slot : BankData → ListData → ℕ → Slot
slot b l r = slot_at (slots_of l.first b.regs b.mems l.cells) (r - l.first)

-- the value that it holds
abbrev pub held : BankData → ListData → ℕ → ℕ
held b l r = (slot b l r).value

-- the width of a slot by its number
abbrev pub width_at : ListData → ℕ → ℕ
width_at l r = slice_index (map (λ (c : CellData). c.width) l.cells) (r - l.first)

-- it is a slot of the list
abbrev pub IsIn : ListData → ℕ → Type 0
IsIn l r = IsAmong l.first (length l.cells) r

-- the cells are well-formed, where a bank of this shape is there
abbrev pub AreSound : Shape → ListData → Type 0
AreSound s l = AreCells s l.first [] l.cells

-- the list with more cells behind; slots that were there stay
pub record Grows (old new : ListData) : Type 0 where
  pub more : List CellData
  pub is : new ≡ record old { cells = old.cells ++ more }

-- with at most n more, which are well-formed where the shape has what they name
pub record Longer (Has : Shape → Type 0) (n : ℕ) (old new : ListData) : Type 0 where
  pub more : List CellData
  pub is : new ≡ record old { cells = old.cells ++ more }
  pub few : length more ≤ n
  pub sound : (s : Shape) → Has s → AreSound s old → AreSound s new

-- they name nothing
abbrev pub Nothing : Shape → Type 0
Nothing s = ⊤

-- with at most n cells more the list has a slot of w bits that holds what f says of each bank
pub record Gives (Has : Shape → Type 0) (n : ℕ) (old new : ListData) (r w : ℕ) (f : BankData → ℕ) : Type 0 where
  pub longer : Longer Has n old new
  pub there : IsIn new r
  pub width : width_at new r ≡ w
  pub value : (s : Shape) (b : BankData) → AreSound s old → held b new r ≡ f b
