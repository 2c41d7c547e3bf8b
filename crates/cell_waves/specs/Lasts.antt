-- The last write of a register (own).
use Rattle.std.specs.Prelude.{ℕ, ◌==◌, List, [], ◌∷◌, Option, Some, None, if◌then◌else◌, ⊤}
use Rattle.cell_emit.specs.cell_form.specs.declared.cell.Write.{Write}
use Rattle.cell_emit.specs.cell_form.specs.declared.cell.Write.TheVariants as w

-- the later of two slots
abbrev pub later_of : Option ℕ → Option ℕ → Option ℕ
later_of earlier None = earlier
later_of earlier (Some s) = Some s

-- the slot that a write sets a register from
abbrev pub written_from : Write → ℕ → Option ℕ
written_from (w.Reg k s) r = if k == r then Some s else None
written_from (w.Mem m enable word new mask) r = None

-- the slot of the last write of a register; none where it has no write
abbrev pub last_write : List Write → ℕ → Option ℕ
last_write [] r = None
last_write (x ∷ xs) r = later_of (written_from x r) (last_write xs r)

-- what a register holds that is set from a slot, or from none, where slots have these values and it held that
abbrev pub held_after : (ℕ → ℕ) → Option ℕ → ℕ → ℕ
held_after value None old = old
held_after value (Some s) old = value s

-- a write of a register
abbrev pub IsRegister : Write → Type 0
IsRegister (w.Reg r s) = ⊤
IsRegister (w.Mem m enable word new mask) = ⊥
