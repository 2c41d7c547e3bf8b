use Rattle.std.proofs.Common.{◌≡◌, length, drop}
use Rattle.std.specs.Prelude.{◌||◌, ◌&&◌, not}
use Rattle.vl_paths.specs.Bits.{Bit}
use Rattle.vl_bits.specs.Masks.{in_masks, in_parts, AreOf}
use Rattle.vl_bits.proofs.parts.gain.Given as goal

abbrev pub invariant-loop-part : goal.invariant-loop-part
invariant-loop-part l = record {
  long : length l.known.items ≡ length l.fn.known.items;
  within : AreOf (length l.fn.known.items) l.all.items;
  known : (b : Bit) → (in_masks l.known.items b || in_parts (drop l.part-index l.parts) b) ≡ (in_masks l.fn.known.items b || in_parts l.parts b);
  bits : (b : Bit) → (in_parts l.all.items b || (not (in_masks l.known.items b) && in_parts (drop l.part-index l.parts) b)) ≡ (not (in_masks l.fn.known.items b) && in_parts l.parts b);
}
