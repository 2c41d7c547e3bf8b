-- Whole numbers that are the same, or both far beyond any value.
use Rattle.std.proofs.Common.{◌≡◌, ◌<◌, ◌≤◌, ◌+◌, ◌-◌, ◌^◌, ◌⊎◌, inl, inr, ℕ, suc, Bool, true, false, ℤ, pos, negsuc, neg_ℤ, ◌≤ℤ◌, ◌+ℤ◌, ◌-ℤ◌, min, refl, sym, ap, ◌∙◌, subst, arith}
use Rattle.std.proofs.lemmas.Bool.{cases_lt}
use Rattle.std.proofs.lemmas.Int.{ints}
use Rattle.vl_loops.specs.Near.{Near}
use Rattle.std.specs.Prelude.{if◌then◌else◌}
use Rattle.vl_base.specs.Value.{is_negative, reading, wrapped}
use Rattle.vl_base.specs.Selects.{picked}
use Rattle.vl_base.proofs.Wholes.{wrapped-negative, above-zero}
use Rattle.vl_design.specs.declared.design.LowestBit.{LowestBit}
use Rattle.vl_design.specs.Value.{lowest_bit}

pub near-negative : (f n m : ℕ) → m ≡ min n f → Near f (neg_ℤ (pos m)) (neg_ℤ (pos n))
near-negative f n m e = by (cases_lt n f)
  where
    by : (n < f) ⊎ (f ≤ n) → Near f (neg_ℤ (pos m)) (neg_ℤ (pos n))
    by (inl h) = let i : m ≡ n = omega (arith, e) in inl (ap (λ k. neg_ℤ (pos k)) i)
    by (inr h) = let i : m ≡ f = omega (arith, e) in inr (inr (omega (arith, ints, i), omega (arith, ints)))

pub near-added : (f : ℕ) (a b c : ℤ) → neg_ℤ (pos 9223372036854775808) ≤ℤ c → c ≤ℤ pos 9223372036854775808 → 9223372036854777808 ≤ f → Near f a b → Near 2000 (c +ℤ a) (c +ℤ b)
near-added f a b c l h w (inl e) = inl (ap (λ k. c +ℤ k) e)
near-added f a b c l h w (inr (inl p)) = let q = p.0 in let r = p.1 in inr (inl (omega (arith, ints), omega (arith, ints)))
near-added f a b c l h w (inr (inr p)) = let q = p.0 in let r = p.1 in inr (inr (omega (arith, ints), omega (arith, ints)))

pub near-taken : (f : ℕ) (a b c : ℤ) → neg_ℤ (pos 9223372036854775808) ≤ℤ c → c ≤ℤ pos 9223372036854775808 → 9223372036854777808 ≤ f → Near f a b → Near 2000 (c -ℤ a) (c -ℤ b)
near-taken f a b c l h w (inl e) = inl (ap (λ k. c -ℤ k) e)
near-taken f a b c l h w (inr (inl p)) = let q = p.0 in let r = p.1 in inr (inr (omega (arith, ints), omega (arith, ints)))
near-taken f a b c l h w (inr (inr p)) = let q = p.0 in let r = p.1 in inr (inl (omega (arith, ints), omega (arith, ints)))

pub near-twice : (r y z : ℤ) → Near 1000 r y → Near 2000 y z → Near 1000 r z
near-twice r y z (inl e) (inl k) = inl (e ∙ k)
near-twice r y z (inl e) (inr (inl p)) = let q = p.0 in let s = p.1 in inr (inl (omega (arith, ints, e), omega (arith, ints)))
near-twice r y z (inl e) (inr (inr p)) = let q = p.0 in let s = p.1 in inr (inr (omega (arith, ints, e), omega (arith, ints)))
near-twice r y z (inr (inl o)) (inl k) = let q = o.0 in let s = o.1 in inr (inl (q, omega (arith, ints, k)))
near-twice r y z (inr (inr o)) (inl k) = let q = o.0 in let s = o.1 in inr (inr (q, omega (arith, ints, k)))
near-twice r y z (inr (inl o)) (inr (inl p)) = let q = o.0 in let s = p.1 in inr (inl (q, omega (arith, ints)))
near-twice r y z (inr (inr o)) (inr (inr p)) = let q = o.0 in let s = p.1 in inr (inr (q, omega (arith, ints)))
near-twice r y z (inr (inl o)) (inr (inr p)) = let q = o.1 in let s = p.0 in absurd (omega (arith, ints))
near-twice r y z (inr (inr o)) (inr (inl p)) = let q = o.1 in let s = p.0 in absurd (omega (arith, ints))

-- of the lowest bit that an index names
pub near-lowest : (from : LowestBit) (b : Bool) → from.taken ≡ b → (s r y whole z : ℤ) → s ≡ r → Near 1000 r y → y ≡ (if b then from.constant -ℤ whole else from.constant +ℤ whole) →
    neg_ℤ (pos 9223372036854775808) ≤ℤ from.constant → from.constant ≤ℤ pos 9223372036854775808 → Near 36893488147419103232 whole z → Near 1000 s (lowest_bit from z)
near-lowest from true t s r y whole z e h f l u n =
    rw t (subst (λ k. Near 1000 k (from.constant -ℤ z)) (sym e) (near-twice r (from.constant -ℤ whole) (from.constant -ℤ z) (subst (Near 1000 r) f h) (near-taken 36893488147419103232 whole z from.constant l u (omega arith) n)))
near-lowest from false t s r y whole z e h f l u n =
    rw t (subst (λ k. Near 1000 k (from.constant +ℤ z)) (sym e) (near-twice r (from.constant +ℤ whole) (from.constant +ℤ z) (subst (Near 1000 r) f h) (near-added 36893488147419103232 whole z from.constant l u (omega arith) n)))

pub near-reading : (w v n : ℕ) (b : Bool) (t s : ℤ) → b ≡ true → is_negative w v ≡ true → v < 2 ^ w → n ≡ wrapped w (neg_ℤ (pos v)) → t ≡ pos (min n 36893488147419103232) → s ≡ neg_ℤ t → Near 36893488147419103232 s (reading b w v)
near-reading w v n b t s h k i e f g =
    let q : n ≡ 2 ^ w - v = e ∙ wrapped-negative w v (above-zero w v k) i in
    let p = near-negative 36893488147419103232 (2 ^ w - v) (min n 36893488147419103232) (ap (λ x. min x 36893488147419103232) q) in
    rw (h, k) (subst (λ x. Near 36893488147419103232 x (neg_ℤ (pos (2 ^ w - v)))) (sym (g ∙ ap neg_ℤ f)) p)

-- bits from a bit on that is the same, or as far away
pub near-picked : (w v width : ℕ) (a b : ℤ) → w ≤ 128 → width ≤ 128 → Near 1000 a b → picked w v a width ≡ picked w v b width
near-picked w v width a b i j (inl e) = ap (λ z. picked w v z width) e
near-picked w v width (pos m) (pos n) i j (inr (inl p)) = let e : min m w ≡ min n w = (let q = p.0 in let r = p.1 in omega (arith, ints)) in rw e refl
near-picked w v width (pos m) (negsuc n) i j (inr (inl p)) = let q = p.1 in absurd (omega (arith, ints))
near-picked w v width (negsuc m) b i j (inr (inl p)) = let q = p.0 in absurd (omega (arith, ints))
near-picked w v width (negsuc m) (negsuc n) i j (inr (inr p)) = let e : min (suc m) width ≡ min (suc n) width = (let q = p.0 in let r = p.1 in omega (arith, ints)) in rw e refl
near-picked w v width (negsuc m) (pos n) i j (inr (inr p)) = let q = p.1 in absurd (omega (arith, ints))
near-picked w v width (pos m) b i j (inr (inr p)) = let q = p.0 in absurd (omega (arith, ints))
