use Rattle.std.proofs.Common.{◌≡◌, length}
use Rattle.vl_check.specs.Nets.{AreNetsOf}
use Rattle.vl_check.specs.Tables.{rows_of}
use Rattle.vl_check.proofs.free.nets.Given as goal

abbrev pub invariant-loop-f : goal.invariant-loop-f
invariant-loop-f l = record {
  long : length l.nets.items ≡ l.f;
  nets : AreNetsOf (rows_of l.table) l.f l.nets.items;
}
