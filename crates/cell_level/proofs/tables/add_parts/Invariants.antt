use Rattle.std.proofs.Common.{◌≡◌, ℕ, length, drop}
use Rattle.std.specs.Prelude.{◌||◌, ◌&&◌, ◌==◌}
use Rattle.vl_bits.specs.vl_paths.specs.Bits.{Bit}
use Rattle.vl_bits.specs.Masks.{in_parts}
use Rattle.cell_level.specs.Tables.{listed}
use Rattle.cell_level.proofs.tables.add_parts.Given as goal

abbrev pub invariant-loop-part : goal.invariant-loop-part
invariant-loop-part l = record {
  long : length l.table.items ≡ length l.fn.table.items;
  parts : (p : ℕ) (b : Bit) → (listed l.table.items p b || ((l.net == p) && in_parts (drop l.part-index l.parts) b)) ≡ (listed l.fn.table.items p b || ((l.net == p) && in_parts l.parts b));
}
