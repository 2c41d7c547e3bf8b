-- Digits in a base that is a power of 2 are those of the number.
use Rattle.std.proofs.Common.{◌≡◌, ℕ, zero, suc, ◌+◌, ◌*◌, ◌/◌, ◌%◌, ◌^◌, ◌<◌, ◌≤◌, refl, sym, ap, ◌∙◌, arith}
use Rattle.std.specs.Int.Digits.{number_from_digits}
use Rattle.std.proofs.Math.Pow.{pow_mono}
use Rattle.std.proofs.Math.Nat.{mod-eq_of_lt, mod-one}
use Rattle.std.proofs.lemmas.Nat.{mod-pow-add}
use Rattle.std.proofs.lemmas.Int.Digits.{number_push}
use Rattle.vl_base.specs.Display.{places, places_of, digits_by}

places-number : (k n v : ℕ) → number_from_digits (2 ^ k) (places (2 ^ k) n v) ≡ v % 2 ^ (n * k)
places-number k zero v = let none : 0 * k ≡ 0 = omega arith in rw (none, mod-one v) refl
places-number k (suc n) v =
    let e : suc n * k ≡ n * k + k = omega arith in
    number_push (2 ^ k) (places (2 ^ k) n (v / 2 ^ k)) (v % 2 ^ k)
    ∙ ap (λ m. m * 2 ^ k + v % 2 ^ k) (places-number k n (v / 2 ^ k))
    ∙ sym (ap (λ m. v % 2 ^ m) e ∙ mod-pow-add v (n * k) k)

pub digits-number : (k w v : ℕ) → 0 < k → v < 2 ^ w → number_from_digits (2 ^ k) (digits_by k w v) ≡ v
digits-number k w v above small =
    let enough : w ≤ places_of k w * k = omega arith in
    let wide : 2 ^ w ≤ 2 ^ (places_of k w * k) = pow_mono enough in
    places-number k (places_of k w) v ∙ mod-eq_of_lt (omega (arith, wide))
