-- The header of a loop: what its assignments do to the loop variables, and what the loop restores.
use Rattle.std.proofs.Common.{◌≡◌, ◌≢◌, ◌⊎◌, inl, inr, ℕ, zero, suc, Bool, true, false, List, [], ◌∷◌, ◌++◌, length, refl, sym, ap, ◌∙◌, arith}
use Rattle.std.specs.Prelude.{slice_set, not, if◌then◌else◌}
use Rattle.std.proofs.lemmas.List.{length-set}
use Rattle.std.proofs.lemmas.Bool.{cases_eq}
use Rattle.vl_design.specs.Syntax.{Exp, Task, Target, Whole, Stm, Set, Later, Sys}
use Rattle.vl_design.specs.Width.{Scope, form, assigned}
use Rattle.vl_design.specs.Value.{words_of}
use Rattle.vl_design.specs.State.{State, Update, sample, all_updated}
use Rattle.vl_design.specs.Targets.{assignment, target_width}
use Rattle.vl_design.specs.Tasks.{called}
use Rattle.vl_design.specs.Exec.{exec, is_true, goes_on, restored}
use Rattle.vl_design.proofs.Kept.{words_other}
use Rattle.vl_loops.specs.Unroll.{is_loop}
use Rattle.vl_loops.specs.Fits.{IsHeader, Assigns, Same, Holds}
use Rattle.vl_loops.proofs.Putting.{header_value}
use Rattle.vl_loops.proofs.Stepping.{updates_agree}
use Rattle.vl_base.proofs.Booleans.{not_false as from_not}

-- x has the loop variables of e, but for j
pub record Beside (scope : Scope) (j : ℕ) (e x : State) : Type 0 where
  pub loops : (i : ℕ) → is_loop scope.names.rows i ≡ true → i ≢ j → words_of x.values i ≡ words_of e.values i
  pub size : length x.values ≡ length e.values

not_true : (b : Bool) → b ≡ true → not b ≡ false
not_true true h = refl
not_true false h = let z : ⊥ = cc in absurd z

pub left_out : {A : Type 0} → (b : Bool) (x y : A) → b ≡ false → (if b then x else y) ≡ y
left_out true x y h = let z : ⊥ = cc in absurd z
left_out false x y h = refl

-- what an assignment and a call do where the run hasn't finished
pub set_alive : (scope : Scope) (t : Target) (x : Exp) (s : State) → s.finished ≡ false → exec scope (Set t x) s ≡ record s { values = all_updated scope.names.rows s.values (assignment scope (sample s) t x) }
set_alive scope t x s h = left_out s.finished s _ h

pub later_alive : (scope : Scope) (t : Target) (x : Exp) (s : State) → s.finished ≡ false → exec scope (Later t x) s ≡ record s { later = s.later ++ assignment scope (sample s) t x }
later_alive scope t x s h = left_out s.finished s _ h

pub sys_alive : (scope : Scope) (task : Task) (s : State) → s.finished ≡ false → exec scope (Sys task) s ≡ called scope task s
sys_alive scope task s h = left_out s.finished s _ h

module _ (scope : Scope) where
  pub test_same : (x s : State) → Holds scope.names.rows x s → (e : Exp) → IsHeader scope.names.rows e → is_true scope e s ≡ is_true scope e x
  test_same x s h e k = rw (header_value scope (sample s) (sample x) h.loops e k (form scope.names e)) refl

  -- where the run hasn't finished, both go on or neither
  pub goes_same : (x s : State) → Holds scope.names.rows x s → s.finished ≡ false → (e : Exp) → IsHeader scope.names.rows e → goes_on scope e s ≡ goes_on scope e x
  goes_same x s h f e k = let a : x.finished ≡ false = h.alive in rw (f, a, test_same x s h e k) refl

  -- a loop variable and another signal
  pub apart : (i j : ℕ) → is_loop scope.names.rows i ≡ false → is_loop scope.names.rows j ≡ true → i ≢ j
  apart i j h k e = let z : is_loop scope.names.rows i ≡ is_loop scope.names.rows j = ap (is_loop scope.names.rows) e in cc (h, k, z)

  -- ---- an assignment of a header

  pub header_alive : (j : ℕ) (a : Stm) → Assigns scope.names.rows j a → (s : State) → s.finished ≡ false → (exec scope a s).finished ≡ false
  header_alive j a k s h = rw k.whole (ap (λ (z : State). z.finished) (set_alive scope (Whole j) k.source s h) ∙ h)

  pub header_same : (j : ℕ) (a : Stm) → Assigns scope.names.rows j a → is_loop scope.names.rows j ≡ true → (s t : State) → s.finished ≡ false → Same scope.names.rows s t → Same scope.names.rows (exec scope a s) t
  header_same j a k m s t h g = rw (k.whole, set_alive scope (Whole j) k.source s h) (record {
    others = λ n b. words_other s.values j n _ (apart n j b m) ∙ g.others n b;
    size = length-set s.values j _ ∙ g.size;
    all_else = g.all_else;
  })

  pub header_holds : (j : ℕ) (a : Stm) → Assigns scope.names.rows j a → (x s : State) → s.finished ≡ false → Holds scope.names.rows x s → Holds scope.names.rows (exec scope a x) (exec scope a s)
  header_holds j a k x s h g =
      let e = k.source in
      let f = header_value scope (sample s) (sample x) g.loops e k.header (assigned (target_width scope.names (Whole j)) (form scope.names e)) in
      let us = assignment scope (sample x) (Whole j) e in
      let z : assignment scope (sample s) (Whole j) e ≡ us = rw f refl in
      let r = updates_agree (λ n. not (is_loop scope.names.rows n)) scope.names.rows us s.values x.values (record { words = λ n b. g.loops n (from_not _ b); size = g.size }) in
      rw (k.whole, set_alive scope (Whole j) e s h, set_alive scope (Whole j) e x g.alive) (record {
        loops = λ n b. ap (λ (vs : List Update). words_of (all_updated scope.names.rows s.values vs) n) z ∙ r.words n (not_true _ b);
        size = ap (λ (vs : List Update). length (all_updated scope.names.rows s.values vs)) z ∙ r.size;
        alive = g.alive;
      })

  pub header_beside : (j : ℕ) (a : Stm) → Assigns scope.names.rows j a → (e x : State) → x.finished ≡ false → Beside scope j e x → Beside scope j e (exec scope a x)
  header_beside j a k e x h b = rw (k.whole, set_alive scope (Whole j) k.source x h) (record {
    loops = λ n m d. words_other x.values j n _ d ∙ b.loops n m d;
    size = length-set x.values j _ ∙ b.size;
  })

-- ---- behind a loop

words_back : (xs ys : List (List ℕ)) (j : ℕ) → length xs ≡ length ys → words_of (slice_set xs j (words_of ys j)) j ≡ words_of ys j
words_back [] [] j e = refl
words_back [] (y ∷ ys) j e = absurd (omega (arith, e))
words_back (x ∷ xs) [] j e = absurd (omega (arith, e))
words_back (x ∷ xs) (y ∷ ys) zero e = refl
words_back (x ∷ xs) (y ∷ ys) (suc j) e = let f : length xs ≡ length ys = omega (arith, e) in words_back xs ys j f

module _ (scope : Scope) where
  pub restored_same : (j : ℕ) → is_loop scope.names.rows j ≡ true → (before s t : State) → Same scope.names.rows s t → Same scope.names.rows (restored j before s) t
  restored_same j m before s t a = record {
    others = λ n b. words_other s.values j n _ (apart scope n j b m) ∙ a.others n b;
    size = length-set s.values j _ ∙ a.size;
    all_else = a.all_else;
  }

  pub restored_holds : (j : ℕ) (e before s : State) → Holds scope.names.rows e before → Beside scope j e s → Holds scope.names.rows e (restored j before s)
  restored_holds j e before s h b = record {
    loops = λ n m. at n m (cases_eq n j);
    size = length-set s.values j _ ∙ b.size;
    alive = h.alive;
  }
    where
      at : (n : ℕ) → is_loop scope.names.rows n ≡ true → (n ≡ j) ⊎ (n ≡ j → ⊥) → words_of (restored j before s).values n ≡ words_of e.values n
      at n m (inl z) = ap (words_of (restored j before s).values) z ∙ (words_back s.values before.values j (b.size ∙ sym h.size) ∙ (ap (words_of before.values) (sym z) ∙ h.loops n m))
      at n m (inr d) = words_other s.values j n _ d ∙ b.loops n m d
