use Rattle.std.proofs.Common.{◌≡◌, drop, length}
use Rattle.std.specs.Prelude.{◌||◌, ◌&&◌, not}
use Rattle.vl_design.specs.Sound.{AreSound}
use Rattle.vl_design.specs.Trees.{exps_of}
use Rattle.vl_paths.specs.Bits.{Bit, some_bit_read}
use Rattle.vl_bits.specs.Seen.{names_seen}
use Rattle.vl_bits.specs.Masks.{in_masks, in_parts, AreOf}
use Rattle.vl_bits.proofs.looks.+look.Given as goal

abbrev pub invariant-looks-loop-e : goal.invariant-looks-loop-e
invariant-looks-loop-e l = record {
  sound : AreSound (names_seen l.m) (exps_of (drop l.e-index l.es));
  read : (b : Bit) → (in_parts l.read.items b || (not (in_masks l.known.items b) && some_bit_read (names_seen l.m) b (exps_of (drop l.e-index l.es))))
      ≡ (in_parts l.fn.read.items b || (not (in_masks l.known.items b) && some_bit_read (names_seen l.m) b (exps_of l.es)));
  within : AreOf (length l.known.items) l.fn.read.items → AreOf (length l.known.items) l.read.items;
}
