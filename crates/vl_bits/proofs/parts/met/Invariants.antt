use Rattle.std.proofs.Common.{◌≡◌, length, drop}
use Rattle.std.specs.Prelude.{◌||◌, ◌&&◌, not}
use Rattle.vl_paths.specs.Bits.{Bit}
use Rattle.vl_bits.specs.Masks.{in_masks, in_parts, AreOf}
use Rattle.vl_bits.proofs.parts.met.Given as goal

abbrev pub invariant-loop-part : goal.invariant-loop-part
invariant-loop-part l = record {
  within : AreOf (length l.known.items) l.all.items;
  bits : (b : Bit) → (in_parts l.all.items b || (in_masks l.known.items b && in_parts (drop l.part-index l.parts) b)) ≡ (in_masks l.known.items b && in_parts l.parts b);
}
