-- Contexts of operands, and places near a value.
use Rattle.std.proofs.Common.{◌≡◌, ◌≤◌, ◌<◌, ◌+◌, ◌*◌, ℕ, suc, min, refl, ap, sym, ◌∙◌, arith, ℤ}
use Rattle.std.specs.Prelude.{pos, negsuc}
use Rattle.std.proofs.Math.Nat.{mul-le-mul_right}
use Rattle.vl_base.specs.Selects.{picked}
use Rattle.vl_eval.specs.Wholes.{near}

-- a place that is kept near picks the same
near-picked : (w v width : ℕ) (z : ℤ) → w ≤ 128 → width ≤ 128 → picked w v (near z) width ≡ picked w v z width
near-picked w v width (pos n) h k = let m : min (min n 128) w ≡ min n w = omega arith in rw m refl
near-picked w v width (negsuc n) h k = let m : min (suc (min n 128)) width ≡ min (suc n) width = omega arith in rw m refl

pub picked-near : (w v width : ℕ) (y z : ℤ) → w ≤ 128 → width ≤ 128 → near y ≡ near z → picked w v y width ≡ picked w v z width
picked-near w v width y z h k e = sym (near-picked w v width y h k) ∙ (ap (λ x. picked w v x width) e ∙ near-picked w v width z h k)

-- one copy more is no wider than all of them
pub copies-fit : (i n w : ℕ) → i < n → i * w + w ≤ n * w
copies-fit i n w h =
    let k : suc i * w ≤ n * w = mul-le-mul_right w h in
    omega (arith, k)
