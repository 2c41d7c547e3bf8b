-- New numbers of slots.
use Rattle.std.specs.Prelude.{◌≡◌, ℕ, ◌-◌, List, map, slice_index_or}
use Rattle.cell_emit.specs.cell_form.specs.declared.cell.Write.{Write}
use Rattle.cell_emit.specs.cell_form.specs.declared.cell.Write.TheVariants as w
use Rattle.cell_emit.specs.cell_form.specs.Data.{CellData, ListData}

-- the new number of a slot of a list that begins with the slot `first`; `next` where it isn't in the list
abbrev pub number_of : ℕ → List ℕ → ℕ → ℕ → ℕ
number_of first numbers next slot = slice_index_or numbers (slot - first) next

-- a cell with new numbers
abbrev pub moved : (ℕ → ℕ) → CellData → CellData
moved number c = record c { args = map number c.args }

-- a write with new numbers
abbrev pub moved_write : (ℕ → ℕ) → Write → Write
moved_write number (w.Reg r value) = w.Reg r (number value)
moved_write number (w.Mem m enable word value mask) = w.Mem m (number enable) (number word) (number value) (number mask)

-- these cells, writes with new numbers behind them, and wanted slots by their new numbers
pub record AreMoved (number : ℕ → ℕ) (first : ℕ) (cells : List CellData) (sets : List Write) (wanted : List ℕ) (new : ListData) (slots : List ℕ) : Type 0 where
  pub list : new ≡ record { first = first; cells = cells; sets = map (moved_write number) sets }
  pub found : slots ≡ map number wanted
