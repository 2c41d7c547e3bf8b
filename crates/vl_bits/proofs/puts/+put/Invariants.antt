use Rattle.std.proofs.Common.{◌≡◌, drop, length}
use Rattle.std.specs.Prelude.{◌||◌}
use Rattle.vl_design.specs.Sound.{AreSoundTargets}
use Rattle.vl_design.specs.Trees.{target_of}
use Rattle.vl_paths.specs.Bits.{Bit, bit_set, some_bit_set}
use Rattle.vl_bits.specs.Seen.{names_seen}
use Rattle.vl_bits.specs.Masks.{in_parts, AreOf}
use Rattle.vl_bits.proofs.Targets.{listed}
use Rattle.vl_bits.proofs.puts.+put.Given as goal

abbrev pub invariant-loop-item : goal.invariant-loop-item
invariant-loop-item l = record {
  sound : AreSoundTargets (names_seen l.m) (listed (drop l.item-index l.item-items));
  bits : (b : Bit) → (in_parts l.parts.items b || some_bit_set (names_seen l.m) l.any b (listed (drop l.item-index l.item-items)))
      ≡ (in_parts l.fn.parts.items b || bit_set (names_seen l.m) l.any b (target_of l.target));
  within : AreOf (length (names_seen l.m).rows) l.fn.parts.items → AreOf (length (names_seen l.m).rows) l.parts.items;
}
