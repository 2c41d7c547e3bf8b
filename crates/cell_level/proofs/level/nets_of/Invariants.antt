use Rattle.std.proofs.Common.{◌≡◌, length, map, take}
use Rattle.vl_bits.specs.vl_design.specs.Trees.{proc_of}
use Rattle.vl_bits.specs.Seen.{names_seen}
use Rattle.vl_bits.specs.Walks.{IsClear}
use Rattle.cell_level.specs.Netting.{AreNetsOf}
use Rattle.cell_level.proofs.level.nets_of.Given as goal

abbrev pub invariant-loop-a : goal.invariant-loop-a
invariant-loop-a l = record {
  long : length l.known.items ≡ length (names_seen l.m).rows;
  clear : IsClear l.known.items;
  nets : AreNetsOf (names_seen l.m) (map proc_of (take l.a-index l.design.processes)) l.nets.items;
}
