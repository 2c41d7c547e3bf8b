use Rattle.std.proofs.Common.{drop}
use Rattle.vl_design.specs.Sound.{AreSoundItems}
use Rattle.vl_design.specs.Trees.{then_of}
use Rattle.vl_bits.specs.Seen.{names_seen}
use Rattle.vl_bits.specs.Cases.{items_of}
use Rattle.vl_bits.proofs.Casing.{Casing}
use Rattle.vl_bits.proofs.Statements.{Leading}
use Rattle.vl_bits.proofs.walk.+walk.Given as goal

abbrev pub invariant-cases-loop-number : goal.invariant-cases-loop-number
invariant-cases-loop-number l = record {
  sound : AreSoundItems (names_seen l.m) (items_of l.path (drop l.number l.items));
  casing : Casing (names_seen l.m) (items_of l.path l.items) (items_of l.path (drop l.number l.items)) l.fn.sets l.sets l.is_open l.all.items;
}

abbrev pub invariant-sequence-loop-item : goal.invariant-sequence-loop-item
invariant-sequence-loop-item l = Leading (names_seen l.m) (then_of l.path l.list) (then_of l.path (drop l.item-index l.list)) l.fn.sets l.sets l.all.items
