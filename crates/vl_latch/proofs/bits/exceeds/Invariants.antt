use Rattle.std.proofs.Common.{◌≡◌, false, drop}
use Rattle.vl_bits.specs.Masks.{in_masks}
use Rattle.vl_latch.specs.Partly.{HasBit}
use Rattle.vl_latch.proofs.bits.exceeds.Given as goal

abbrev pub invariant-loop-part : goal.invariant-loop-part
invariant-loop-part l = HasBit l.parts (λ b. in_masks l.known.items b ≡ false) → HasBit (drop l.part-index l.parts) (λ b. in_masks l.known.items b ≡ false)
