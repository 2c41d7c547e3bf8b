-- The cells of a list that are needed (own).
use Rattle.std.specs.Prelude.{ℕ, ◌+◌, ◌⊎◌, List, [], ◌∷◌, ◌++◌, drop, Any, Contains}
use Rattle.std.specs.List.{flat_map}
use Rattle.cell_emit.specs.cell_form.specs.declared.cell.Write.{Write}
use Rattle.cell_emit.specs.cell_form.specs.declared.cell.Write.TheVariants as w
use Rattle.cell_emit.specs.cell_form.specs.Data.{CellData, ListData}

-- the slots that a write is done from
abbrev pub sources : Write → List ℕ
sources (w.Reg r value) = value ∷ []
sources (w.Mem m enable word value mask) = enable ∷ word ∷ value ∷ mask ∷ []

-- the slots that writes are done from, and the wanted ones
abbrev pub roots : List Write → List ℕ → List ℕ
roots sets wanted = flat_map sources sets ++ wanted

-- the cell with index k is needed: its slot is an operand of a later cell, or writes are done from it, or it is wanted
abbrev pub IsNeeded : ListData → List ℕ → ℕ → Type 0
IsNeeded l wanted k =
    Any (λ (c : CellData). Contains c.args (l.first + k)) (drop (k + 1) l.cells) ⊎ Contains (roots l.sets wanted) (l.first + k)
