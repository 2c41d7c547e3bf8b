-- Places near a value.
use Rattle.std.proofs.Common.{◌≡◌, ◌≤◌, ℕ, suc, min, refl, ap, sym, ◌∙◌, arith}
use Rattle.std.specs.Prelude.{ℤ, pos, negsuc}
use Rattle.vl_base.specs.Selects.{picked, placed}
use Rattle.cell_eval.specs.Wholes.{near}

near-picked : (w v : ℕ) (z : ℤ) (width : ℕ) → w ≤ 128 → width ≤ 128 → picked w v (near z) width ≡ picked w v z width
near-picked w v (pos n) width h k = let m : min (min n 128) w ≡ min n w = omega arith in rw m refl
near-picked w v (negsuc n) width h k = let m : min (suc (min n 128)) width ≡ min (suc n) width = omega arith in rw m refl

pub picked-near : (w v : ℕ) (y z : ℤ) (width : ℕ) → w ≤ 128 → width ≤ 128 → near y ≡ near z → picked w v y width ≡ picked w v z width
picked-near w v y z width h k e = sym (near-picked w v y width h k) ∙ (ap (λ x. picked w v x width) e ∙ near-picked w v z width h k)

near-placed : (w v : ℕ) (z : ℤ) (width part : ℕ) → w ≤ 128 → width ≤ 128 → placed w v (near z) width part ≡ placed w v z width part
near-placed w v (pos n) width part h k = let m : min (min n 128) w ≡ min n w = omega arith in rw m refl
near-placed w v (negsuc n) width part h k = let m : min (suc (min n 128)) width ≡ min (suc n) width = omega arith in rw m refl

pub placed-near : (w v : ℕ) (y z : ℤ) (width part : ℕ) → w ≤ 128 → width ≤ 128 → near y ≡ near z → placed w v y width part ≡ placed w v z width part
placed-near w v y z width part h k e = sym (near-placed w v y width part h k) ∙ (ap (λ x. placed w v x width part) e ∙ near-placed w v z width part h k)
