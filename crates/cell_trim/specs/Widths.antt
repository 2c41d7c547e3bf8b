-- How wide the slots are that registers are set from.
use Rattle.std.specs.Prelude.{ℕ, ◌≤◌, ⊤}
use Rattle.cell_emit.specs.cell_form.specs.declared.cell.Write.{Write}
use Rattle.cell_emit.specs.cell_form.specs.declared.cell.Write.TheVariants as w
use Rattle.cell_emit.specs.cell_form.specs.Data.{ListData}
use Rattle.cell_emit.specs.Slots.{width_at}

-- a register is set from a slot that has at most so many bits
abbrev pub IsWithin : (ℕ → ℕ) → ListData → Write → Type 0
IsWithin most l (w.Reg r s) = width_at l s ≤ most r
IsWithin most l (w.Mem m enable word value mask) = ⊤
