-- Numbers and their bytes.
use Rattle.std.proofs.Common.{◌≡◌, ℕ, zero, suc, ◌+◌, ◌-◌, ◌*◌, ◌/◌, ◌%◌, ◌^◌, ◌<◌, ◌≤◌, List, [], ◌∷◌, ◌++◌, length, take, get_or, refl, sym, ap, ◌∙◌, append_assoc, arith, lit<, inl, inr, Bool, eqb, ltb}
use Rattle.std.specs.Int.Digits.{number_from_digits}
use Rattle.std.proofs.Math.Nat.{div-eq_of_lt}
use Rattle.std.proofs.Math.Pow.{pow_mono, pow-add, pow_pos}
use Rattle.std.proofs.lemmas.Int.Digits.{number_push, number_more}
use Rattle.std.proofs.lemmas.List.{length-append, take_more}
use Rattle.std.proofs.lemmas.Nat.{shr-shr, le-div}
use Rattle.std.proofs.lemmas.Bool.{cases_lt, lt-ltb, le-ltb, eq-eqb, ne_eqb}
use Rattle.vl_base.specs.Display.{places}
use Rattle.vl_base.proofs.Numbers.{eight_more}
pub use Rattle.vl_base.proofs.Numbers.{byte_room}

-- one more byte behind a number of so many
pub byte_more : (v b i : ℕ) → v < 2 ^ (8 * i) → b < 256 → v * 256 + b < 2 ^ (8 * (i + 1))
byte_more v b i h k = let e = eight_more i in omega (arith, e)

-- the byte that is written after i of n
pub next_place : (n i v : ℕ) → i < n → places 256 (i + 1) (v / 2 ^ (8 * (n - (i + 1)))) ≡ places 256 i (v / 2 ^ (8 * (n - i))) ++ (v / 2 ^ (8 * (n - 1 - i)) % 256) ∷ []
next_place n i v lt =
    let s : i + 1 ≡ suc i = omega arith in
    let j : 8 * (n - 1 - i) + 8 ≡ 8 * (n - i) = omega arith in
    let k : 8 * (n - (i + 1)) ≡ 8 * (n - 1 - i) = omega arith in
    let w = v / 2 ^ (8 * (n - 1 - i)) in
    let e : w / 256 ≡ v / 2 ^ (8 * (n - i)) = shr-shr v (8 * (n - 1 - i)) 8 ∙ ap (λ m. v / 2 ^ m) j in
    ap (λ m. places 256 m (v / 2 ^ (8 * (n - (i + 1))))) s
    ∙ ap (λ m. places 256 (suc i) (v / 2 ^ m)) k
    ∙ ap (λ m. places 256 i m ++ (w % 256) ∷ []) e

pub put-byte : (n i v : ℕ) (before out : List ℕ) (b : ℕ) → i < n → b ≡ v / 2 ^ (8 * (n - 1 - i)) % 256 → out ≡ before ++ places 256 i (v / 2 ^ (8 * (n - i)))
    → out ++ b ∷ [] ≡ before ++ places 256 (i + 1) (v / 2 ^ (8 * (n - (i + 1))))
put-byte n i v before out b lt is h =
    let front = places 256 i (v / 2 ^ (8 * (n - i))) in
    ap (λ xs. xs ++ b ∷ []) h
    ∙ append_assoc before front (b ∷ [])
    ∙ ap (λ y. before ++ (front ++ y ∷ [])) is
    ∙ ap (λ xs. before ++ xs) (sym (next_place n i v lt))

-- a number fits a width where nothing is left above the width
pub fits-is : (v w : ℕ) → eqb (v / 2 ^ w) 0 ≡ ltb v (2 ^ w)
fits-is v w =
    elim (cases_lt v (2 ^ w)) [
      | inl lt ↦ eq-eqb (v / 2 ^ w) 0 (div-eq_of_lt lt) ∙ sym (lt-ltb v (2 ^ w) lt)
      | inr le ↦ let one : 1 ≤ v / 2 ^ w = le-div 1 v (2 ^ w) (pow_pos w) (omega (arith, le)) in ne_eqb (v / 2 ^ w) 0 (λ e. omega (arith, e, one)) ∙ sym (le-ltb v (2 ^ w) le)
    ]

pub length-places : (n v : ℕ) → length (places 256 n v) ≡ n
length-places zero v = refl
length-places (suc n) v = let e = length-places n (v / 256) in let f = length-append (places 256 n (v / 256)) (v % 256 ∷ []) in omega (arith, e, f)

-- a number that fits is that of its bytes
pub places-again : (n v : ℕ) → v < 2 ^ (8 * n) → number_from_digits 256 (places 256 n v) ≡ v
places-again zero v lt = let e : 2 ^ (8 * 0) ≡ 1 = refl in omega (arith, e)
places-again (suc n) v lt =
    let s : 8 * suc n ≡ 8 * (n + 1) = omega arith in
    let p : 2 ^ (8 * suc n) ≡ 2 ^ (8 * n) * 256 = ap (λ m. 2 ^ m) s ∙ eight_more n in
    let below : v / 256 < 2 ^ (8 * n) = omega (arith, lt, p) in
    number_push 256 (places 256 n (v / 256)) (v % 256)
    ∙ ap (λ m. m * 256 + v % 256) (places-again n (v / 256) below)
    ∙ omega arith

abbrev pub IsBytes : List ℕ → Type 0
IsBytes bytes = (i : ℕ) → get_or bytes i 0 < 256

one_more : (m b : ℕ) → b < 256 → (m * 256 + b) / 256 ≡ m
one_more m b lt = omega arith

one_rest : (m b : ℕ) → b < 256 → (m * 256 + b) % 256 ≡ b
one_rest m b lt = omega arith

-- bytes are those of their number
pub places-back : (n : ℕ) (bytes : List ℕ) → IsBytes bytes → n ≤ length bytes → places 256 n (number_from_digits 256 (take n bytes)) ≡ take n bytes
places-back zero bytes fits le = refl
places-back (suc n) bytes fits le =
    let s : suc n ≡ n + 1 = omega arith in
    let b = get_or bytes n 0 in
    let m = number_from_digits 256 (take n bytes) in
    let e : number_from_digits 256 (take (suc n) bytes) ≡ m * 256 + b = ap (λ k. number_from_digits 256 (take k bytes)) s ∙ number_more 256 bytes n (omega arith) in
    ap (λ k. places 256 (suc n) k) e
    ∙ ap (λ k. places 256 n k ++ ((m * 256 + b) % 256) ∷ []) (one_more m b (fits n))
    ∙ ap (λ k. places 256 n m ++ k ∷ []) (one_rest m b (fits n))
    ∙ ap (λ k. k ++ b ∷ []) (places-back n bytes fits (omega arith))
    ∙ sym (ap (λ k. take k bytes) s ∙ take_more bytes n 0 (omega arith))

pub number-below : (n : ℕ) (bytes : List ℕ) → IsBytes bytes → n ≤ length bytes → number_from_digits 256 (take n bytes) < 2 ^ (8 * n)
number-below zero bytes fits le = lit< tt
number-below (suc n) bytes fits le =
    let s : suc n ≡ n + 1 = omega arith in
    let b = get_or bytes n 0 in
    let m = number_from_digits 256 (take n bytes) in
    let e : number_from_digits 256 (take (suc n) bytes) ≡ m * 256 + b = ap (λ k. number_from_digits 256 (take k bytes)) s ∙ number_more 256 bytes n (omega arith) in
    let h = byte_more m b n (number-below n bytes fits (omega arith)) (fits n) in
    let p : 2 ^ (8 * suc n) ≡ 2 ^ (8 * (n + 1)) = ap (λ k. 2 ^ (8 * k)) s in
    omega (arith, e, h, p)
