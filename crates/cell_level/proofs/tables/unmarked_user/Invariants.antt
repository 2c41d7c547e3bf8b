use Rattle.std.proofs.Common.{◌≡◌, ℕ, true, false, drop}
use Rattle.vl_bits.specs.vl_paths.specs.Bits.{Bit}
use Rattle.vl_bits.specs.Masks.{in_parts}
use Rattle.cell_level.specs.Tables.{listed}
use Rattle.cell_level.specs.Walks.{on}
use Rattle.cell_level.proofs.tables.unmarked_user.Given as goal

abbrev pub invariant-loop-part : goal.invariant-loop-part
invariant-loop-part l = (p : ℕ) (b : Bit) → listed l.table p b ≡ true → in_parts l.parts b ≡ true → on l.flags.items p ≡ false → in_parts (drop l.part-index l.parts) b ≡ true
