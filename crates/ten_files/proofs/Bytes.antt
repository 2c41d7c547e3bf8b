-- The bytes of a variable that a read replaces.
use Rattle.std.proofs.Common.{◌≡◌, ◌≤◌, ◌<◌, ◌^◌, ◌*◌, ◌+◌, ◌-◌, ◌/◌, ◌%◌, ◌∙◌, ap, sym, refl, ℕ, List, [], ◌∷◌, length, arith, mod-lt, mod-eq_of_lt}
use Rattle.std.specs.Prelude.{◌==◌, false}
use Rattle.std.proofs.Math.Nat.{mul-le-mul_left}
use Rattle.std.proofs.lemmas.Bool.Decides.{nat_tests}
use Rattle.std.proofs.Math.Pow.{pow_mono, pow_pos, pow-add, mod-mod-pow}
use Rattle.std.proofs.lemmas.Grind.{common_steps}
use Rattle.std.specs.Int.Digits.{number_from_digits}
use Rattle.vl_base.specs.Files.{bytes_of, with_bytes}

-- of no bytes
pub with-none : (w v : ℕ) → v % 2 ^ w ≡ with_bytes w (bytes_of w) [] v
with-none w v =
    let e : 8 * (bytes_of w - 0) ≡ (8 * bytes_of w - w) + w = omega arith in
    let f : 2 ^ (8 * (bytes_of w - 0)) ≡ 2 ^ ((8 * bytes_of w - w) + w) = ap (λ n. 2 ^ n) e in
    let r = 2 ^ (8 * (bytes_of w - 0)) in
    let z : v % r ≡ 0 * r + v % r = omega arith in
    sym (mod-mod-pow v (8 * bytes_of w - w) w) ∙ (sym (ap (λ k. (v % k) % 2 ^ w) f) ∙ ap (λ k. k % 2 ^ w) z)

pub reads-none : (w v : ℕ) (got : List ℕ) → length got ≡ 0 → v % 2 ^ w ≡ with_bytes w (bytes_of w) got v
reads-none w v [] h = with-none w v
reads-none w v (b ∷ bs) h = absurd (omega (arith, h))

-- so many bytes, and what is behind them, have room
pub room : (a v g n : ℕ) → a < 2 ^ (8 * g) → g ≤ n → n ≤ 16 → a * 2 ^ (8 * (n - g)) + v % 2 ^ (8 * (n - g)) < 2 ^ 128
room a v g n h i j =
    let rest = 2 ^ (8 * (n - g)) in
    let below : v % rest < rest = mod-lt v (pow_pos (8 * (n - g))) in
    let h' : a + 1 ≤ 2 ^ (8 * g) = omega (arith, h) in
    let most : rest * (a + 1) ≤ rest * 2 ^ (8 * g) = mul-le-mul_left rest h' in
    let e : 8 * g + 8 * (n - g) ≡ 8 * n = omega arith in
    let whole : 2 ^ (8 * g) * rest ≡ 2 ^ (8 * n) = sym (pow-add 2 (8 * g) (8 * (n - g))) ∙ ap (λ k. 2 ^ k) e in
    let le : 8 * n ≤ 128 = omega arith in
    let last : 2 ^ (8 * n) ≤ 2 ^ 128 = pow_mono le in
    omega (arith, below, most, whole, last)

pub shifted : (k : ℕ) → k < 128 → 1 * 2 ^ k % 2 ^ 128 ≡ 2 ^ k
shifted k h =
    let e : 1 * 2 ^ k ≡ 2 ^ k = omega arith in
    let le : k + 1 ≤ 128 = omega arith in
    let most : 2 ^ (k + 1) ≤ 2 ^ 128 = pow_mono le in
    let twice : 2 ^ (k + 1) ≡ 2 ^ k * 2 ^ 1 = pow-add 2 k 1 in
    let pos : 0 < 2 ^ k = pow_pos k in
    ap (λ n. n % 2 ^ 128) e ∙ mod-eq_of_lt (omega (arith, most, twice, pos))

pub positive : (n : ℕ) → false ≡ (n == 0) → 0 < n
positive n h = grind (arith, nat_tests)

pub ruleset reads = (common_steps, reads-none)
