-- Numbers and their tests: laws that many proofs use.
use Rattle.std.proofs.Common.{List, [], ap, arith, false, get_or, length, map, nat_eq, nat_lt, refl, rules, subst, suc, sym, tests, true, zero, ℕ, ◌&&◌, ◌*◌, ◌+◌, ◌-◌, ◌<◌, ◌==◌, ◌^◌, ◌||◌, ◌∙◌, ◌∷◌, ◌≡◌, ◌≢◌, ◌≤◌}
use Rattle.std.proofs.Math.Pow.{pow-add, pow_mono}
use Rattle.std.proofs.lemmas.Bool.Decides.{nat_tests}
use Rattle.std.specs.Prelude.{nat_le, nat_lt, ◌==◌, ◌⊎◌}

pub equal_self : (x : ℕ) → (x == x) ≡ true
equal_self x = grind arith

pub equal_true : (x y : ℕ) → x ≡ y → (x == y) ≡ true
equal_true x y e = grind arith

pub unequal_false : (x y : ℕ) → ¬ (x ≡ y) → (x == y) ≡ false
unequal_false x y h = grind (arith, nat_tests)

pub half_twice : (w : ℕ) → 1 ≤ w → 2 ^ w ≡ 2 * 2 ^ (w - 1)
half_twice w h =
    let e : w ≡ 1 + (w - 1) = omega arith in
    ap (λ n. 2 ^ n) e ∙ pow-add 2 1 (w - 1)

pub equal_or_not : (x y : ℕ) → (x ≡ y) ⊎ (x ≢ y)
equal_or_not x y = grind arith

pub lt_true : (g n : ℕ) → g < n → nat_lt g n ≡ true
lt_true g n h = grind arith

pub apart_false : (x y : ℕ) → x ≢ y → (x == y) ≡ false
apart_false x y e = grind arith

pub lt_false : (a x : ℕ) → x ≤ a → nat_lt a x ≡ false
lt_false a x h = grind (arith, nat_tests)

pub eight_more : (i : ℕ) → 2 ^ (8 * (i + 1)) ≡ 2 ^ (8 * i) * 256
eight_more i = let e : 8 * (i + 1) ≡ 8 * i + 8 = omega arith in ap (λ n. 2 ^ n) e ∙ pow-add 2 (8 * i) 8

pub lt_zero : (k : ℕ) → nat_lt k 0 ≡ false
lt_zero k = search (rules, tests)

-- a number of at most 16 bytes has at most 128 bits
pub byte_room : (i : ℕ) → i < 16 → 2 ^ (8 * (i + 1)) ≤ 2 ^ 128
byte_room i h = let le : 8 * (i + 1) ≤ 128 = omega arith in pow_mono le

pub one_true : (x : ℕ) → x ≡ 1 → (x == 1) ≡ true
one_true x e = grind arith

pub equal_from : (x y : ℕ) → (x == y) ≡ true → x ≡ y
equal_from x y h = grind arith

pub equal-too : (a b : ℕ) → nat_eq a b ≡ true → a ≡ b
equal-too a b h = grind (arith, nat_tests)

pub lt_suc_cases : (k n : ℕ) → k < n + 1 → (k < n) ⊎ (k ≡ n)
lt_suc_cases k n h = grind arith

pub le_true : (a b : ℕ) → a ≤ b → nat_le a b ≡ true
le_true a b h = grind (arith, nat_tests)

pub fits_wider : (v a w : ℕ) → v < 2 ^ a → a ≤ w → v < 2 ^ w
fits_wider v a w h i = let m : 2 ^ a ≤ 2 ^ w = pow_mono i in omega arith

-- how long the memories are
pub length_at : (ms : List (List ℕ)) (m : ℕ) → length (get_or ms m []) ≡ get_or (map (λ (x : List ℕ). length x) ms) m 0
length_at [] m = refl
length_at (x ∷ xs) zero = refl
length_at (x ∷ xs) (suc m) = length_at xs m

pub nat_eq_self : (a : ℕ) → nat_eq a a ≡ true
nat_eq_self a = grind (arith, nat_tests)

pub zero_not_one : (x : ℕ) → x ≡ 0 → (x == 1) ≡ false
zero_not_one x e = grind arith

pub nonzero_false : (x : ℕ) → ¬ (x ≡ 0) → (x == 0) ≡ false
nonzero_false x h = grind (arith, nat_tests)

pub lt_or_le : (i w : ℕ) → (i < w) ⊎ (w ≤ i)
lt_or_le i w = grind arith

pub product_left : (n w : ℕ) → 1 ≤ n * w → 1 ≤ n
product_left zero w h = absurd (omega arith)
product_left (suc n) w h = omega arith

-- where copies have bits, a part has some
pub product_right : (n w : ℕ) → 1 ≤ n * w → 1 ≤ w
product_right n zero h = absurd (let e : n * 0 ≡ 0 = omega arith in omega (arith, e, h))
product_right n (suc w) h = omega arith

pub le_from : (a b : ℕ) → nat_le a b ≡ true → a ≤ b
le_from a b h = grind (arith, nat_tests)

pub lt_from : (g n : ℕ) → nat_lt g n ≡ true → g < n
lt_from g n h = grind arith

pub less_unequal : (n k : ℕ) → n < k → (n == k) ≡ false
less_unequal n k h = grind (arith, nat_tests)

pub lt_subst : (a b n : ℕ) → a ≡ b → b < n → a < n
lt_subst a b n e h = subst (λ k. k < n) (sym e) h

pub back_ranks : (a b c d e f : ℕ) → (nat_lt a b || ((a == b) && (nat_lt c d || ((c == d) && nat_lt e f)))) ≡ true
    → (nat_lt b a || ((b == a) && (nat_lt d c || ((d == c) && nat_lt f e)))) ≡ false
back_ranks a b c d e f h = grind (arith, nat_tests)

pub over_ranks : (a b c d e f g h i : ℕ) → (nat_lt a b || ((a == b) && (nat_lt d e || ((d == e) && nat_lt g h)))) ≡ false
    → (nat_lt c a || ((c == a) && (nat_lt f d || ((f == d) && nat_lt i g)))) ≡ false
    → (nat_lt c b || ((c == b) && (nat_lt f e || ((f == e) && nat_lt i h)))) ≡ false
over_ranks a b c d e f g h i p q = grind (arith, nat_tests)
