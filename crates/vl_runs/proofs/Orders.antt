-- Who stands in an order once, stands in it; and nothing else does.
use Rattle.std.proofs.Common.{◌≡◌, ℕ, ◌+◌, ◌<◌, ◌≤◌, nat_lt, Bool, true, false, List, [], ◌∷◌, length, refl, sym, subst, arith}
use Rattle.std.specs.Prelude.{◌⊎◌, ◌==◌, cond, count_by, if◌then◌else◌}
use Rattle.std.proofs.lemmas.Bool.{eqb-true, ltb-true, lt-ltb}
use Rattle.std.proofs.lemmas.List.Sums.{sum_by-cons}
use mathlib.Core.Logic.{inl, inr}
use Rattle.vl_paths.specs.vl_design.specs.Syntax.{Flat}
use Rattle.vl_paths.specs.Graph.{Levelled}
use Rattle.vl_runs.specs.Nets.{In, AllBelow}
use Rattle.vl_runs.specs.Checked.{IsOrder}
use Rattle.vl_paths.specs.vl_base.proofs.Numbers.{equal_self as self}

-- how often x stands in a list
abbrev times : ℕ → List ℕ → ℕ
times x xs = count_by (λ y. y == x) xs

split : (p x : ℕ) (xs : List ℕ) → times p (x ∷ xs) ≡ cond (x == p) 1 0 + times p xs
split p x xs = sum_by-cons (λ y. cond (y == p) 1 0) x xs

times_in : (p : ℕ) (xs : List ℕ) → 0 < times p xs → In p xs
times_in p [] h = absurd (omega (arith, h))
times_in p (x ∷ xs) h = go (x == p) refl (subst (λ m. 0 < m) (split p x xs) h) (λ k. times_in p xs k)
  where
    go : (b : Bool) → (x == p) ≡ b → 0 < cond b 1 0 + times p xs → (0 < times p xs → In p xs) → (p ≡ x) ⊎ In p xs
    go true e k f = inl (sym (eqb-true x p e))
    go false e k f = inr (f (omega (arith, k)))

more : (p x : ℕ) (xs : List ℕ) → times p xs ≤ times p (x ∷ xs)
more p x xs = omega (arith, split p x xs)

below : (n : ℕ) (xs : List ℕ) → ((p : ℕ) → 0 < times p xs → p < n) → AllBelow n xs
below n [] h = tt
below n (x ∷ xs) h = (h x (subst (λ m. 0 < m) (sym (split x x xs)) (first (x == x) (self x))), below n xs (λ p k. h p (omega (arith, k, more p x xs))))
  where
    first : (b : Bool) → b ≡ true → 0 < cond b 1 0 + times x xs
    first true e = omega arith
    first false e = let z : ⊥ = cc in absurd z

pub ordered : (d : Flat) (order : List ℕ) → ((p : ℕ) → times p order ≡ (if nat_lt p (length d.procs) then 1 else 0)) → Levelled d order → IsOrder d order
ordered d order each levelled = record {
  below = below (length d.procs) order (λ p k. there p (nat_lt p (length d.procs)) refl (subst (λ m. 0 < m) (each p) k));
  every = λ i l. times_in i order (let e : nat_lt i (length d.procs) ≡ true = lt-ltb i (length d.procs) l in once i (nat_lt i (length d.procs)) e (each i));
  levelled = levelled;
}
  where
    there : (p : ℕ) (b : Bool) → nat_lt p (length d.procs) ≡ b → 0 < (if b then 1 else 0) → p < length d.procs
    there p true e h = ltb-true p (length d.procs) e
    there p false e h = absurd (omega (arith, h))

    once : (i : ℕ) (b : Bool) → b ≡ true → times i order ≡ (if b then 1 else 0) → 0 < times i order
    once i true e h = omega (arith, h)
    once i false e h = let z : ⊥ = cc in absurd z
