-- Stores of memories in order: where they are.
use Rattle.std.proofs.Common.{◌≡◌, ℕ, suc, ◌+◌, ◌*◌, ◌<◌, ◌≤◌, List, [], ◌∷◌, ◌++◌, length, map, refl, ap, subst, arith, inl}
use Rattle.std.specs.List.{AllByRecursion}
use Rattle.ten_form.specs.declared.store.Store.{Store}
use Rattle.ten_form.specs.Holding.{mask_register}
use Rattle.ten_form.specs.Stores.{stores_from, AreApart, AreDisjoint, IsBeside}
pub use Rattle.vl_design.specs.vl_base.proofs.Lists.{all_weaker_of as each-weaker, all_append_right as each-last}

-- ---- what holds of each

pub each-both : {X : Type 0} (P : X → Type 0) (xs ys : List X) → AllByRecursion P xs → AllByRecursion P ys → AllByRecursion P (xs ++ ys)
each-both P [] ys f g = g
each-both P (x ∷ xs) ys f g = (f.0, each-both P xs ys f.1 g)

-- ---- stores from a register on

pub many-from : (r : ℕ) (ms : List ℕ) → length (stores_from r ms) ≡ length ms
many-from r [] = refl
many-from r (m ∷ ms) = ap suc (many-from (r + 4) ms)

pub memories-from : (r : ℕ) (ms : List ℕ) → map (λ (s : Store). s.memory) (stores_from r ms) ≡ ms
memories-from r [] = refl
memories-from r (m ∷ ms) = ap (λ xs. m ∷ xs) (memories-from (r + 4) ms)

pub both-from : (r : ℕ) (a b : List ℕ) → stores_from r (a ++ b) ≡ stores_from r a ++ stores_from (r + 4 * length a) b
both-from r [] b = let e : r ≡ r + 4 * 0 = omega arith in ap (λ k. stores_from k b) e
both-from r (m ∷ a) b =
    let e : r + 4 + 4 * length a ≡ r + 4 * length (m ∷ a) = omega arith in
    subst (λ k. stores_from r (m ∷ (a ++ b)) ≡ stores_from r (m ∷ a) ++ stores_from k b) e (ap (λ xs. record { memory = m; first = r } ∷ xs) (both-from (r + 4) a b))

abbrev pub IsWithin : (low high : ℕ) → Store → Type 0
IsWithin low high x = (low ≤ x.first) × (mask_register x < high)

pub within-from : (r : ℕ) (ms : List ℕ) → AllByRecursion (IsWithin r (r + 4 * length ms)) (stores_from r ms)
within-from r [] = tt
within-from r (m ∷ ms) = (
  (omega arith, omega arith),
  each-weaker (IsWithin (r + 4) (r + 4 + 4 * length ms)) (IsWithin r (r + 4 * length (m ∷ ms))) (stores_from (r + 4) ms)
      (λ x h. (let a = h.0 in omega arith, let b = h.1 in omega arith)) (within-from (r + 4) ms),
)

pub beside-from : (k r : ℕ) (ms : List ℕ) → k < r → AllByRecursion (IsBeside k) (stores_from r ms)
beside-from k r ms l = each-weaker (IsWithin r (r + 4 * length ms)) (IsBeside k) (stores_from r ms) (λ x h. (let a = h.0 in inl (omega arith))) (within-from r ms)

pub apart-from : (r : ℕ) (ms : List ℕ) → AreDisjoint (stores_from r ms)
apart-from r [] = tt
apart-from r (m ∷ ms) =
    let s : Store = record { memory = m; first = r } in (
      each-weaker (IsWithin (r + 4) (r + 4 + 4 * length ms)) (AreApart s) (stores_from (r + 4) ms) (λ x h. (let a = h.0 in inl (omega arith))) (within-from (r + 4) ms),
      apart-from (r + 4) ms,
    )
