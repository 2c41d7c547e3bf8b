use Rattle.std.proofs.Common.{◌≡◌, ℕ, length}
use Rattle.std.specs.Prelude.{◌&&◌, nat_lt}
use Rattle.vl_bits.specs.vl_paths.specs.Bits.{Bit}
use Rattle.cell_level.specs.Nets as spec
use Rattle.cell_level.specs.Tables.{listed}
use Rattle.cell_level.proofs.tables.readers.Given as goal

abbrev pub invariant-loop-number : goal.invariant-loop-number
invariant-loop-number l = record {
  long : length l.table.items ≡ l.signals;
  nets : (p : ℕ) (b : Bit) → listed l.table.items p b ≡ (nat_lt p l.number && spec.reads l.nets p b);
}
