-- Marks of what is instantiated, and the first top.
use Rattle.std.proofs.Common.{◌≡◌, ℕ, zero, suc, ◌+◌, ◌-◌, ◌<◌, ◌≤◌, inl, inr, ⊎_elim, Bool, true, false, not, nat_eq, if◌then◌else◌, List, [], ◌∷◌, length, get_or, Some, refl, sym, ap, ◌∙◌, subst, arith}
use Rattle.std.specs.List.{list_any}
use Rattle.std.proofs.lemmas.Bool.{cases_lt}
use Rattle.std.proofs.lemmas.Bool.Decides.{nat_tests}
use Rattle.std.proofs.lemmas.Grind.{common_steps}
use Rattle.vl_scope.specs.vl_tree.specs.Hierarchy.{first_from, is_top}
use Rattle.vl_scope.specs.Faults.{In}
use Rattle.vl_scope.proofs.Members.{list_any-In_cases}
use Rattle.vl_names.specs.Walks.{IsStep, IsWithin, is_unmarked}
use Rattle.vl_scope.specs.vl_base.proofs.Numbers.{equal-too as equal}

-- a list in a graph stands at a number
stands_at : (graph : List (List ℕ)) (steps : List ℕ) → In steps graph → (a : ℕ) × (get_or graph a [] ≡ steps)
stands_at [] steps h = absurd h
stands_at (x ∷ graph) steps (inl e) = (zero, e)
stands_at (x ∷ graph) steps (inr h) = let r = stands_at graph steps h in (suc r.0, r.1)

-- no step leads past the nodes
none_past : (graph : List (List ℕ)) → IsWithin graph → (k : ℕ) → length graph ≤ k → list_any (list_any (nat_eq k)) graph ≡ false
none_past graph within k past = by (list_any (list_any (nat_eq k)) graph) refl
  where
    by : (t : Bool) → list_any (list_any (nat_eq k)) graph ≡ t → t ≡ false
    by false e = refl
    by true e =
        let r = list_any-In_cases (list_any (nat_eq k)) graph e in
        let at = stands_at graph r.0 r.1 in
        let q = list_any-In_cases (nat_eq k) r.0 r.2 in
        let step : IsStep graph at.0 q.0 = subst (In q.0) (sym at.1) q.1 in
        absurd (omega (arith, within at.0 q.0 step, equal k q.0 q.2))

missing : (marks : List Bool) (k : ℕ) → length marks ≤ k → get_or marks k false ≡ false
missing marks k past = grind (arith, common_steps)

-- tops are what isn't marked
pub unmarked-tops : (graph : List (List ℕ)) (marks : List Bool) → IsWithin graph → length marks ≡ length graph → ((k : ℕ) → k < length graph → get_or marks k false ≡ list_any (list_any (nat_eq k)) graph) → is_unmarked marks ≡ is_top graph
unmarked-tops graph marks within same tells = λ i k. ap not (at k) i
  where
    at : (k : ℕ) → get_or marks k false ≡ list_any (list_any (nat_eq k)) graph
    at k = ⊎_elim (tells k) (λ past. missing marks k (omega arith) ∙ sym (none_past graph within k past)) (cases_lt k (length graph))

-- the first from a number on is a later one where that isn't one
pub first_from-next : (p : ℕ → Bool) (n all : ℕ) → n < all → p n ≡ false → first_from p n (all - n) ≡ first_from p (n + 1) (all - (n + 1))
first_from-next p n all h isn_t =
    let more : all - n ≡ suc (all - (n + 1)) = omega arith in
    let one : suc n ≡ n + 1 = omega arith in
    ap (first_from p n) more
    ∙ ap (λ b. if b then Some n else first_from p (suc n) (all - (n + 1))) isn_t
    ∙ ap (λ m. first_from p m (all - (n + 1))) one
