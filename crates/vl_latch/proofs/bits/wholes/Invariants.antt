use Rattle.std.proofs.Common.{drop, length}
use Rattle.vl_bits.specs.Seen.{names_seen}
use Rattle.vl_bits.specs.Masks.{AreOf}
use Rattle.vl_latch.proofs.Testing.{Wholes}
use Rattle.vl_latch.proofs.bits.wholes.Given as goal

abbrev pub invariant-loop-part : goal.invariant-loop-part
invariant-loop-part l = record {
  wholes : Wholes (names_seen l.m) l.parts (drop l.part-index l.parts) l.all.items;
  within : AreOf (length (names_seen l.m).rows) l.all.items;
}
