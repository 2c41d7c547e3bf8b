-- Ranges of more than 128 bits.
use Rattle.std.proofs.Common.{◌≡◌, Bool, true, false, arith}
use Rattle.std.specs.Prelude.{ℤ, pos, ◌+ℤ◌, ◌-ℤ◌, int_le, if◌then◌else◌}
use Rattle.std.proofs.lemmas.Grind.{common_steps}
use Rattle.std.proofs.lemmas.Int.{ints}
use Rattle.elab_plain.specs.vl_flat.specs.Ranges.{bits_in, too_wide}

wide-go : (b : Bool) (l r : ℤ) → bits_in (if b then r +ℤ pos 128 else r -ℤ pos 128, r) ≡ 129
wide-go true l r = grind (arith, ints)
wide-go false l r = grind (arith, ints)

pub wide-bits : (l r : ℤ) → bits_in (too_wide (l, r)) ≡ 129
wide-bits l r = wide-go (int_le r l) l r

pub ruleset ranges = (common_steps, ints, wide-bits)
