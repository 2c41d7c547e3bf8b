use Rattle.std.proofs.Common.{◌≡◌, drop, length}
use Rattle.std.specs.Prelude.{◌||◌, ◌&&◌, not}
use Rattle.vl_design.specs.Sound.{AreSoundTargets}
use Rattle.vl_design.specs.Trees.{target_of}
use Rattle.vl_paths.specs.Bits.{Bit, index_reads, some_index_reads}
use Rattle.vl_bits.specs.Seen.{names_seen}
use Rattle.vl_bits.specs.Masks.{in_masks, in_parts, AreOf}
use Rattle.vl_bits.proofs.Targets.{listed}
use Rattle.vl_bits.proofs.puts.+look_target.Given as goal

abbrev pub invariant-loop-item : goal.invariant-loop-item
invariant-loop-item l = record {
  sound : AreSoundTargets (names_seen l.m) (listed (drop l.item-index l.item-items));
  read : (b : Bit) → (in_parts l.read.items b || (not (in_masks l.known.items b) && some_index_reads (names_seen l.m) b (listed (drop l.item-index l.item-items))))
      ≡ (in_parts l.fn.read.items b || (not (in_masks l.known.items b) && index_reads (names_seen l.m) b (target_of l.target)));
  within : AreOf (length l.known.items) l.fn.read.items → AreOf (length l.known.items) l.read.items;
}
