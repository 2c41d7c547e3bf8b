-- The turns of a loop one by one.
use Rattle.std.proofs.Common.{◌≡◌, ◌+◌, ◌-◌, ◌≤◌, ℕ, zero, suc, Bool, true, false, List, [], ◌∷◌, ◌++◌, map, refl, sym, ap, ◌∙◌, subst, append_assoc, arith}
use Rattle.std.specs.Prelude.{slice_set, slice_index}
use Rattle.std.specs.Prelude.{All}
use Rattle.std.specs.List.{AllByRecursion}
use Rattle.std.proofs.lemmas.List.Elements.{All-push, All-from_recursion, recursion_from_All}
use Rattle.vl_design.specs.Syntax.{Exp, Stm, Row}
use Rattle.vl_design.specs.Width.{Scope}
use Rattle.vl_design.specs.State.{State}
use Rattle.vl_design.specs.Exec.{exec, goes_on, turns}
use Rattle.vl_loops.specs.Heads.{turn_states, AreTurns}
use Rattle.vl_loops.specs.Rooms.{state_of, AreNumbers}
use Rattle.vl_loops.proofs.SteppingOfHeader.{set-same}
use Rattle.vl_base.proofs.Lists.{append_nil as append-none}
pub use Rattle.vl_base.proofs.Lists.{map_push as map-push}

at-true : {A : Type 0} (b : Bool) (x y : A) → b ≡ true → (elim b [ true ↦ x | false ↦ y ]) ≡ x
at-true true x y h = refl
at-true false x y h = let z : ⊥ = cc in absurd z

at-false : {A : Type 0} (b : Bool) (x y : A) → b ≡ false → (elim b [ true ↦ x | false ↦ y ]) ≡ y
at-false false x y h = refl
at-false true x y h = let z : ⊥ = cc in absurd z

states-go : {S : Type 0} (n : ℕ) (test : S → Bool) (step : S → S) (s : S) → test s ≡ true → turn_states (suc n) test step s ≡ s ∷ turn_states n test step (step s)
unfolding turn_states
states-go {S} n test step s h = at-true {A = List S} (test s) (s ∷ turn_states n test step (step s)) [] h

states-stay : {S : Type 0} (n : ℕ) (test : S → Bool) (step : S → S) (s : S) → test s ≡ false → turn_states n test step s ≡ []
unfolding turn_states
states-stay zero test step s h = refl
states-stay {S} (suc n) test step s h = at-false {A = List S} (test s) (s ∷ turn_states n test step (step s)) [] h

turns-go : {S : Type 0} (n : ℕ) (test : S → Bool) (step : S → S) (s : S) → test s ≡ true → turns (suc n) test step s ≡ turns n test step (step s)
turns-go n test step s h = at-true (test s) (turns n test step (step s)) s h

turns-stay : {S : Type 0} (n : ℕ) (test : S → Bool) (step : S → S) (s : S) → test s ≡ false → turns n test step s ≡ s
turns-stay zero test step s h = refl
turns-stay (suc n) test step s h = at-false (test s) (turns n test step (step s)) s h

states-none : {S : Type 0} (test : S → Bool) (step : S → S) (s : S) → turn_states zero test step s ≡ []
unfolding turn_states
states-none test step s = refl

-- of at most n turns from s these were made, and at most m are left from t on
pub record Leads (scope : Scope) (test : Exp) (step : Stm) (n : ℕ) (s : State) (done : List State) (m : ℕ) (t : State) : Type 0 where
  pub states : turn_states n (goes_on scope test) (exec scope step) s ≡ done ++ turn_states m (goes_on scope test) (exec scope step) t
  pub ends : turns n (goes_on scope test) (exec scope step) s ≡ turns m (goes_on scope test) (exec scope step) t

module _ (scope : Scope) (test : Exp) (step : Stm) (n : ℕ) (s : State) where
  pub leads-init : Leads scope test step n s [] n s
  leads-init = record { states = refl; ends = refl }

  pub leads-more : (done : List State) (m : ℕ) (t u : State) → Leads scope test step n s done (suc m) t → goes_on scope test t ≡ true → exec scope step t ≡ u → Leads scope test step n s (done ++ t ∷ []) m u
  leads-more done m t u l h e = record {
    states = l.states ∙ (ap (λ z. done ++ z) (states-go m (goes_on scope test) (exec scope step) t h) ∙ (sym (append_assoc done (t ∷ []) (turn_states m (goes_on scope test) (exec scope step) (exec scope step t)))
        ∙ ap (λ z. (done ++ t ∷ []) ++ turn_states m (goes_on scope test) (exec scope step) z) e));
    ends = l.ends ∙ (turns-go m (goes_on scope test) (exec scope step) t h ∙ ap (turns m (goes_on scope test) (exec scope step)) e);
  }

  pub leads-stay : (done : List State) (m : ℕ) (t : State) → Leads scope test step n s done m t → goes_on scope test t ≡ false → AreTurns scope test step n s done false
  unfolding AreTurns
  leads-stay done m t l h = (
    l.states ∙ (ap (λ z. done ++ z) (states-stay m (goes_on scope test) (exec scope step) t h) ∙ append-none done),
    sym (ap (goes_on scope test) (l.ends ∙ turns-stay m (goes_on scope test) (exec scope step) t h) ∙ h),
  )

  pub leads-end : (done : List State) (m : ℕ) (t : State) (b : Bool) → m ≡ zero → Leads scope test step n s done m t → b ≡ goes_on scope test t → AreTurns scope test step n s done b
  unfolding AreTurns
  leads-end done m t b e l h =
      let k : Leads scope test step n s done zero t = rw (← e) l in
      (k.states ∙ (ap (λ z. done ++ z) (states-none (goes_on scope test) (exec scope step) t) ∙ append-none done), h ∙ sym (ap (goes_on scope test) (k.ends)))

-- one turn more, of this number of the loop variable j
pub leads-push : (scope : Scope) (test : Exp) (step : Stm) (n : ℕ) (s : State) (first ns next : List ℕ) (j : ℕ) (all more : List ℕ) (left v : ℕ) (b : Bool) →
    Leads scope test step n s (map (λ u. state_of (slice_set first j u)) all) left (state_of ns) → b ≡ goes_on scope test (state_of ns) → b ≡ true → exec scope step (state_of ns) ≡ state_of next →
    more ≡ all ++ v ∷ [] → slice_set first j v ≡ ns → 1 ≤ left → Leads scope test step n s (map (λ u. state_of (slice_set first j u)) more) (left - 1) (state_of next)
leads-push scope test step n s first ns next j all more left v b l g t e m k i =
    let here : suc (left - 1) ≡ left = omega arith in
    let f = λ (u : ℕ). state_of (slice_set first j u) in
    let q : map f more ≡ map f all ++ state_of ns ∷ [] = ap (map f) m ∙ (map-push f all v ∙ ap (λ z. map f all ++ state_of z ∷ []) k) in
    let l' : Leads scope test step n s (map f all) (suc (left - 1)) (state_of ns) = rw here l in
    subst (λ z. Leads scope test step n s z (left - 1) (state_of next)) (sym q) (leads-more scope test step n s (map f all) (left - 1) (state_of ns) (state_of next) l' (sym g ∙ t) e)

pub fits-push : (rows : List Row) (first ns : List ℕ) (j : ℕ) (all more : List ℕ) (v : ℕ) → All (λ u. AreNumbers rows (slice_set first j u)) all → AreNumbers rows ns → more ≡ all ++ v ∷ [] → slice_set first j v ≡ ns →
    All (λ u. AreNumbers rows (slice_set first j u)) more
fits-push rows first ns j all more v h n m k = subst (All (λ u. AreNumbers rows (slice_set first j u))) (sym m) (All-push (λ u. AreNumbers rows (slice_set first j u)) all v h (subst (AreNumbers rows) (sym k) n))

-- the same numbers of a loop variable from numbers that differ in it alone
pub map-alike : (f g : ℕ → State) → ((v : ℕ) → f v ≡ g v) → (xs : List ℕ) → map f xs ≡ map g xs
map-alike f g h [] = refl
map-alike f g h (x ∷ xs) = rw (h x, map-alike f g h xs) refl
