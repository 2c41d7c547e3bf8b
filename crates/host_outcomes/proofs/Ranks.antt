-- The numbers of tenants among those that run.
use Rattle.std.proofs.Common.{◌≡◌, ℕ, zero, suc, ◌+◌, ◌<◌, Bool, true, false, ◌==◌, List, [], ◌∷◌, length, filter, get_or, refl, sym, subst, ap, ◌∙◌, arith}
use Rattle.std.specs.Prelude.{not}
use Rattle.std.proofs.lemmas.Bool.{eqb-true, eq-eqb}
use Rattle.host_outcomes.specs.Reported.{number_in, numbers_from}
use Rattle.host_outcomes.specs.Given.{rank}

-- how many run
abbrev pub running : List Bool → ℕ
running refused = length (filter (λ r. not r) refused)

pub numbers-count : (b : ℕ) (refused : List Bool) → length (numbers_from b refused) ≡ running refused
numbers-count b [] = refl
numbers-count b (true ∷ rs) = numbers-count (b + 1) rs
numbers-count b (false ∷ rs) = ap suc (numbers-count (b + 1) rs)

ranked : (b m d : ℕ) (refused : List Bool) → get_or refused m true ≡ false
    → (rank refused m < length (numbers_from b refused)) × (get_or (numbers_from b refused) (rank refused m) d ≡ b + m)
ranked b m d [] e = let z : ⊥ = cc in absurd z
ranked b zero d (true ∷ rs) e = let z : ⊥ = cc in absurd z
ranked b (suc m) d (true ∷ rs) e = let h = ranked (b + 1) m d rs e in (h.0, h.1 ∙ omega arith)
ranked b zero d (false ∷ rs) e = (omega arith, omega arith)
ranked b (suc m) d (false ∷ rs) e = let h = ranked (b + 1) m d rs e in let l = h.0 in (omega (arith, l), h.1 ∙ omega arith)

-- that of one that isn't refused is among theirs
pub number-of-rank : (refused : List Bool) (m : ℕ) → get_or refused m true ≡ false
    → (rank refused m < length (numbers_from 0 refused)) × (number_in refused (rank refused m) ≡ m)
number-of-rank refused m e = let h = ranked 0 m (length refused) refused e in (h.0, h.1 ∙ omega arith)

pub rank-runs : (refused : List Bool) (m : ℕ) → get_or refused m true ≡ false → rank refused m < running refused
rank-runs refused m e = let l = (number-of-rank refused m e).0 in let c = numbers-count 0 refused in omega (arith, l, c)

numbered : (b k d : ℕ) (refused : List Bool) → k < length (numbers_from b refused)
    → (m : ℕ) × (get_or (numbers_from b refused) k d ≡ b + m) × (get_or refused m true ≡ false) × (rank refused m ≡ k)
numbered b k d [] l = absurd (omega (arith, l))
numbered b k d (true ∷ rs) l = let h = numbered (b + 1) k d rs l in (suc h.0, h.1 ∙ omega arith, h.2, h.3)
numbered b zero d (false ∷ rs) l = (0, omega arith, refl, refl)
numbered b (suc k) d (false ∷ rs) l = let h = numbered (b + 1) k d rs (omega (arith, l)) in (suc h.0, h.1 ∙ omega arith, h.2, ap suc h.3)

pub rank-of-number : (refused : List Bool) (k n : ℕ) → k < length (numbers_from 0 refused) → number_in refused k ≡ n → (get_or refused n true ≡ false) × (rank refused n ≡ k)
rank-of-number refused k n l e =
    let h = numbered 0 k (length refused) refused l in
    let same : h.0 ≡ n = omega arith ∙ sym h.1 ∙ e in
    (subst (λ i. get_or refused i true ≡ false) same h.2, subst (λ i. rank refused i ≡ k) same h.3)

-- two that aren't refused are the same where they have the same number among those that run
pub same-number : (refused : List Bool) (m n : ℕ) → get_or refused m true ≡ false → get_or refused n true ≡ false → (m == n) ≡ (rank refused m == rank refused n)
same-number refused m n e f = by (m == n) (rank refused m == rank refused n) refl refl
  where
    by : (a b : Bool) → (m == n) ≡ a → (rank refused m == rank refused n) ≡ b → a ≡ b
    by true b p q = sym (eq-eqb (rank refused m) (rank refused n) (ap (rank refused) (eqb-true m n p))) ∙ q
    by false false p q = refl
    by false true p q =
        let same : m ≡ n = sym (number-of-rank refused m e).1 ∙ ap (number_in refused) (eqb-true (rank refused m) (rank refused n) q) ∙ (number-of-rank refused n f).1 in
        sym p ∙ eq-eqb m n same
