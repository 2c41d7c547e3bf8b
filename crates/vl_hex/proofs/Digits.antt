-- One more digit.
use Rattle.std.proofs.Common.{◌≡◌, ◌≤◌, ◌<◌, ◌^◌, ◌*◌, ◌+◌, ◌-◌, ◌/◌, ◌%◌, ◌∙◌, ap, sym, refl, ℕ, arith}
use Rattle.std.proofs.Math.Nat.{mod-add-mod, mul-add-mod_self_right, mod-add-div, mul_assoc}
use Rattle.std.proofs.Math.Pow.{pow-add}
use Rattle.std.proofs.lemmas.Grind.{common_steps}
use Rattle.std.proofs.lemmas.Nat.{mul-mod_second}
use Rattle.vl_hex.specs.Alike.{IsNear, Same, Far}

-- the lowest bits of a number with one more digit are those of its lowest bits with one more digit
equal-mod : (v x d m : ℕ) → v % m ≡ x % m → (16 * v + d) % m ≡ (16 * x + d) % m
equal-mod v x d m h =
    let e : (16 * v) % m ≡ (16 * x) % m = sym (mul-mod_second 16 v m) ∙ (ap (λ k. (16 * k) % m) h ∙ mul-mod_second 16 x m) in
    sym (mod-add-mod (16 * v) m d) ∙ (ap (λ k. (k + d) % m) e ∙ mod-add-mod (16 * x) m d)

-- what is at 2^128 and above doesn't count
low-mod : (y q w : ℕ) → w ≤ 128 → (2 ^ 128 * q + y) % 2 ^ w ≡ y % 2 ^ w
low-mod y q w h =
    let e : 128 ≡ (128 - w) + w = omega arith in
    let p : 2 ^ 128 ≡ 2 ^ (128 - w) * 2 ^ w = ap (λ n. 2 ^ n) e ∙ pow-add 2 (128 - w) w in
    let a = 2 ^ (128 - w) in
    let b = 2 ^ w in
    let r : 2 ^ 128 * q ≡ (q * a) * b = ap (λ n. n * q) p ∙ turned a b q in
    ap (λ n. (n + y) % b) r ∙ mul-add-mod_self_right (q * a) b y
  where
    turned : (a b q : ℕ) → (a * b) * q ≡ (q * a) * b
    turned a b q = omega arith

pub digit-more : (w v x d : ℕ) → w ≤ 128 → v % 2 ^ w ≡ x % 2 ^ w → (16 * v + d) % 2 ^ w ≡ (x % 2 ^ 124 * 16 + d) % 2 ^ w
digit-more w v x d h e =
    let s = mod-add-div x (2 ^ 124) in
    let t : 16 * x + d ≡ 2 ^ 128 * (x / 2 ^ 124) + (x % 2 ^ 124 * 16 + d) = omega (arith, s) in
    equal-mod v x d (2 ^ w) e ∙ (ap (λ n. n % 2 ^ w) t ∙ low-mod (x % 2 ^ 124 * 16 + d) (x / 2 ^ 124) w h)

pub near-far : (a b d : ℕ) → 2 ^ 40 ≤ b → IsNear a b → IsNear (16 * a + d) b
near-far a b d l (Same e) = Far (omega (arith, e, l)) l
near-far a b d l (Far h k) = Far (omega (arith, h)) k

pub near-more : (a b d : ℕ) → b < 2 ^ 40 → IsNear a b → IsNear (16 * a + d) (16 * b + d)
near-more a b d l (Same e) = Same (ap (λ n. 16 * n + d) e)
near-more a b d l (Far h k) = absurd (omega (arith, l, k))

pub ruleset digits = (common_steps, digit-more, near-far, near-more)
