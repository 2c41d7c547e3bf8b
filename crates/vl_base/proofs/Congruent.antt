-- Cutting to a width keeps sums and products of whole numbers.
use Rattle.std.proofs.Common.{◌≡◌, ℕ, zero, suc, ◌+◌, ◌-◌, ◌*◌, ◌%◌, ◌^◌, ◌<◌, refl, sym, ap, ◌∙◌, arith}
use Rattle.std.specs.Prelude.{ℤ, pos, negsuc, neg_ℤ, ◌+ℤ◌, ◌-ℤ◌, ◌*ℤ◌}
use Rattle.std.proofs.lemmas.Int.{ints}
use Rattle.std.proofs.lemmas.Nat.{mul-mod, mod_below}
use Rattle.std.proofs.Math.Pow.{pow_pos}
use Rattle.std.proofs.Math.Nat.{add-mod, add-mul-mod_self_right, mod-eq_of_lt, mul-one}
use Rattle.vl_base.specs.Value.{wrapped}
use Rattle.vl_base.proofs.Wholes.{wrapped-is}

-- a natural number that is z modulo p, where m is p - 1
abbrev pub natural : ℕ → ℤ → ℕ
natural m (pos n) = n
natural m (negsuc n) = suc n * m

abbrev multiple : ℤ → ℕ
multiple (pos n) = 0
multiple (negsuc n) = suc n

natural-is : (p m : ℕ) (z : ℤ) → p ≡ m + 1 → z +ℤ pos (multiple z * p) ≡ pos (natural m z)
natural-is p m (pos n) e = omega (arith, ints)
natural-is p m (negsuc n) e =
    let products : suc n * p ≡ suc n * (m + 1) = ap (λ x. suc n * x) e in
    omega (arith, ints, products)

below-one : (w : ℕ) → 2 ^ w ≡ (2 ^ w - 1) + 1
below-one w = omega (arith, pow_pos w)

pub wrapped-natural : (w : ℕ) (z : ℤ) → wrapped w z ≡ natural (2 ^ w - 1) z % 2 ^ w
wrapped-natural w z = wrapped-is w z (multiple z) (natural (2 ^ w - 1) z) (natural-is (2 ^ w) (2 ^ w - 1) z (below-one w))

natural-negative : (m n : ℕ) → natural m (neg_ℤ (pos n)) ≡ n * m
natural-negative m zero = omega arith
natural-negative m (suc n) = refl

both-negative : (p m a b : ℕ) → p ≡ m + 1 → a * m * (b * m) % p ≡ a * b % p
both-negative p m a b e =
    let same : a * m * (b * m) + (2 * (a * b)) * p ≡ a * b + (a * b * p) * p = rw e (omega arith) in
    sym (add-mul-mod_self_right (a * m * (b * m)) (2 * (a * b)) p)
    ∙ ap (λ n. n % p) same ∙ add-mul-mod_self_right (a * b) (a * b * p) p

natural-product : (p m : ℕ) (a b : ℤ) → p ≡ m + 1 → natural m (a *ℤ b) % p ≡ (natural m a * natural m b) % p
natural-product p m (pos a) (pos b) e = refl
natural-product p m (pos a) (negsuc b) e = rw (natural-negative m (a * suc b)) (ap (λ n. n % p) (omega arith))
natural-product p m (negsuc a) (pos b) e = rw (natural-negative m (suc a * b)) (ap (λ n. n % p) (omega arith))
natural-product p m (negsuc a) (negsuc b) e = sym (both-negative p m (suc a) (suc b) e)

pub wrapped-product : (w : ℕ) (a b : ℤ) → wrapped w (a *ℤ b) ≡ wrapped w a * wrapped w b % 2 ^ w
wrapped-product w a b =
    let m = 2 ^ w - 1 in
    wrapped-natural w (a *ℤ b) ∙ natural-product (2 ^ w) m a b (below-one w)
    ∙ mul-mod (natural m a) (natural m b) (2 ^ w)
    ∙ rw (wrapped-natural w a, wrapped-natural w b) refl

pub wrapped-sum : (w : ℕ) (a b : ℤ) → wrapped w (a +ℤ b) ≡ (wrapped w a + wrapped w b) % 2 ^ w
wrapped-sum w a b =
    let m = 2 ^ w - 1 in
    let p = 2 ^ w in
    let k = multiple a in
    let l = multiple b in
    let f = natural-is p m a (below-one w) in
    let g = natural-is p m b (below-one w) in
    let products : (k + l) * p ≡ k * p + l * p = omega arith in
    let e : (a +ℤ b) +ℤ pos ((k + l) * p) ≡ pos (natural m a + natural m b) = omega (arith, ints, f, g, products) in
    wrapped-is w (a +ℤ b) (k + l) (natural m a + natural m b) e
    ∙ add-mod (natural m a) (natural m b) p
    ∙ rw (wrapped-natural w a, wrapped-natural w b) refl

pub wrapped-below : (w : ℕ) (z : ℤ) → wrapped w z < 2 ^ w
wrapped-below w z = rw (wrapped-natural w z) (mod_below (natural (2 ^ w - 1) z) (2 ^ w) (pow_pos w))

pub wrapped-again : (w : ℕ) (z : ℤ) → wrapped w (pos (wrapped w z)) ≡ wrapped w z
wrapped-again w z = mod-eq_of_lt (wrapped-below w z)

opposite : (z : ℤ) → neg_ℤ z ≡ z *ℤ negsuc 0
opposite (pos n) = ap (λ k. neg_ℤ (pos k)) (sym (mul-one n))
opposite (negsuc n) = ap pos (sym (mul-one (suc n)))

opposite-again : (w : ℕ) (b : ℤ) → wrapped w (neg_ℤ b) ≡ wrapped w (neg_ℤ (pos (wrapped w b)))
opposite-again w b =
    ap (wrapped w) (opposite b) ∙ wrapped-product w b (negsuc 0)
    ∙ ap (λ n. n * wrapped w (negsuc 0) % 2 ^ w) (sym (wrapped-again w b))
    ∙ sym (wrapped-product w (pos (wrapped w b)) (negsuc 0)) ∙ sym (ap (wrapped w) (opposite (pos (wrapped w b))))

pub wrapped-gap : (w : ℕ) (a b : ℤ) → wrapped w (a -ℤ b) ≡ wrapped w (pos (wrapped w a) -ℤ pos (wrapped w b))
wrapped-gap w a b =
    wrapped-sum w a (neg_ℤ b)
    ∙ ap (λ n. (n + wrapped w (neg_ℤ b)) % 2 ^ w) (sym (wrapped-again w a))
    ∙ ap (λ n. (wrapped w (pos (wrapped w a)) + n) % 2 ^ w) (opposite-again w b)
    ∙ sym (wrapped-sum w (pos (wrapped w a)) (neg_ℤ (pos (wrapped w b))))
