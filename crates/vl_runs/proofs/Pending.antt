-- The flags of the pending.
use Rattle.std.proofs.Common.{◌≡◌, ◌≢◌, ℕ, zero, suc, ◌+◌, ◌<◌, Bool, true, false, List, [], ◌∷◌, length, Some, None, refl, ap, ◌∙◌, arith}
use Rattle.std.specs.Prelude.{◌||◌}
use Rattle.vl_runs.specs.Queue.{first_pending, first_done, woken, is_pending}

-- how many are pending
abbrev pub count_pending : List Bool → ℕ
count_pending [] = 0
count_pending (true ∷ bs) = suc (count_pending bs)
count_pending (false ∷ bs) = count_pending bs

-- the one that is found: p is k places behind
pub found : (bs : List Bool) (k p : ℕ) → first_pending k bs ≡ Some p →
    (i : ℕ) × (p ≡ k + i) × (is_pending bs i ≡ true) × (i < length bs) × (suc (count_pending (first_done bs)) ≡ count_pending bs)
    × ((j : ℕ) → j ≢ i → is_pending (first_done bs) j ≡ is_pending bs j)
found [] k p h = let z : ⊥ = cc in absurd z
found (true ∷ bs) k p h = let e : k ≡ p = cc in (0, omega arith, refl, omega arith, refl, at)
  where
    at : (j : ℕ) → j ≢ 0 → is_pending (false ∷ bs) j ≡ is_pending (true ∷ bs) j
    at zero n = absurd (n refl)
    at (suc j) n = refl
found (false ∷ bs) k p h = let f = found bs (suc k) p h in (suc f.0, omega (arith, f.1), f.2, omega (arith, f.3), f.4, at f.0 f.5)
  where
    at : (i : ℕ) → ((j : ℕ) → j ≢ i → is_pending (first_done bs) j ≡ is_pending bs j) → (j : ℕ) → j ≢ suc i → is_pending (false ∷ first_done bs) j ≡ is_pending (false ∷ bs) j
    at i g zero n = refl
    at i g (suc j) n = g j (λ e. n (ap suc e))

pub none_found : (bs : List Bool) (k : ℕ) → first_pending k bs ≡ None → (j : ℕ) → is_pending bs j ≡ false
none_found [] k h j = refl
none_found (true ∷ bs) k h j = let z : ⊥ = cc in absurd z
none_found (false ∷ bs) k h zero = refl
none_found (false ∷ bs) k h (suc j) = none_found bs (suc k) h j

pub done_length : (bs : List Bool) → length (first_done bs) ≡ length bs
done_length [] = refl
done_length (true ∷ bs) = refl
done_length (false ∷ bs) = ap suc (done_length bs)

pub woken_length : (p : ℕ → Bool) (k : ℕ) (bs : List Bool) → length (woken p k bs) ≡ length bs
woken_length p k [] = refl
woken_length p k (b ∷ bs) = ap suc (woken_length p (suc k) bs)

pub woken_none : (p : ℕ → Bool) (k : ℕ) (bs : List Bool) → ((j : ℕ) → p j ≡ false) → woken p k bs ≡ bs
woken_none p k [] h = refl
woken_none p k (true ∷ bs) h = ap (λ x. true ∷ x) (woken_none p (suc k) bs h)
woken_none p k (false ∷ bs) h = rw (h k) (ap (λ x. false ∷ x) (woken_none p (suc k) bs h))

pub woken_at : (p : ℕ → Bool) (k : ℕ) (bs : List Bool) (i : ℕ) → i < length bs → is_pending (woken p k bs) i ≡ (is_pending bs i || p (k + i))
woken_at p k [] i h = absurd (omega arith)
woken_at p k (b ∷ bs) zero h = let e : k + 0 ≡ k = omega arith in rw e refl
woken_at p k (b ∷ bs) (suc i) h = let e : suc k + i ≡ k + suc i = omega arith in woken_at p (suc k) bs i (omega arith) ∙ ap (λ x. is_pending bs i || p x) e
