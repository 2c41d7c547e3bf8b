-- Whole numbers of values.
use Rattle.std.proofs.Common.{◌≡◌, refl, ap, sym, ◌∙◌, ℕ, ◌+◌, ◌-◌, ◌*◌, ◌^◌, ◌≤◌, ◌<◌, Bool, true, false, arith}
use Rattle.std.specs.Prelude.{pos, neg_ℤ}
use Rattle.std.proofs.lemmas.Grind.{common_steps}
use Rattle.std.proofs.Math.Pow.{pow-add, pow_mono}
use Rattle.std.proofs.Math.Nat.{mod-eq_of_lt}
use Rattle.vl_base.specs.Value.{reading, resized, is_negative}
use Rattle.vl_base.proofs.Wholes.{wrapped-negative}
use Rattle.vl_base.proofs.Shared.{reading-low}
pub use Rattle.vl_base.proofs.Shared.{unsigned-reading}
pub use Rattle.vl_base.proofs.Numbers.{half_twice}

pub below-half : (s : Bool) (w v : ℕ) → 1 ≤ w → v < 2 ^ (w - 1) → reading s w v ≡ pos v
below-half s w v h k =
    let e = half_twice w h in
    let low : is_negative w v ≡ false = grind (arith, e) in
    reading-low s w v low

pub above-half : (s : Bool) (w v : ℕ) → s ≡ true → 1 ≤ w → v < 2 ^ w → 2 ^ (w - 1) ≤ v → reading s w v ≡ neg_ℤ (pos (2 ^ (w - 1) - (v - 2 ^ (w - 1))))
above-half s w v t h b k =
    let e = half_twice w h in
    let top : is_negative w v ≡ true = grind (arith, e) in
    let d : 2 ^ w - v ≡ 2 ^ (w - 1) - (v - 2 ^ (w - 1)) = omega (arith, e) in
    rw (t, top, d) refl

pub ruleset halves = (common_steps, half_twice, below-half, above-half, unsigned-reading)
