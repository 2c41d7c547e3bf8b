-- What statements do in two states, of which one is behind the other.
use Rattle.std.proofs.Common.{◌≡◌, ℕ, zero, suc, Bool, true, false, refl, sym, ◌∙◌, ap, subst}
use Rattle.std.specs.Prelude.{◌||◌, ◌&&◌, not, if◌then◌else◌, ◌==◌}
use Rattle.vl_design.specs.declared.design.Form.{Form}
use Rattle.vl_design.specs.Syntax.{Exp, Exps, Stm, Nop, Then, If, Case, For, Repeat, Set, Later, Sys, Items, NoItems, Labelled, Default}
use Rattle.vl_design.specs.Width.{Scope, form}
use Rattle.vl_design.specs.Value.{value}
use Rattle.vl_design.specs.State.{State, sample}
use Rattle.vl_design.specs.Tasks.{called}
use Rattle.vl_design.specs.Exec.{exec, exec_items, exec_default, turns, some_turn, times, counted_if, some_match, is_true, goes_on, most_turns, holds, items_hold, items_form, asks}
use Rattle.vl_design.proofs.Resting.{exec_over}
use Rattle.vl_sites.specs.Answers.{answers, asks_before, items_ask_before}
use Rattle.vl_sites.specs.Behind.{IsBehind}
use Rattle.vl_sites.proofs.Reading.{May, split, reads, some_read, value_same, match_same}
use Rattle.vl_sites.proofs.Calling.{of_behind, to_behind, Leads, weakly, leads_by, finished_same, choice_leads, restored_leads, sets_lead, delays_lead, calls_lead, answers_lead}

module _ (scope : Scope) (first : State) where
  abbrev Goes : Bool → State → State → Type 0
  Goes w s t = Leads first w s t

  value_on : (w : Bool) (e : Exp) → May w (reads e) → (c : Form) → (s t : State) → Goes w s t → value scope (sample s) e c ≡ value scope (sample t) e c
  value_on w e h c s t d = subst (λ (z : State). value scope (sample s) e c ≡ value scope (sample z) e c) (sym d.same) (sym (value_same scope s.values s.ticks d.x s.answer w d.known e h c))

  match_on : (w : Bool) (c : Form) (v : ℕ) (es : Exps) → May w (some_read es) → (s t : State) → Goes w s t → some_match scope (sample s) c v es ≡ some_match scope (sample t) c v es
  match_on w c v es h s t d = subst (λ (z : State). some_match scope (sample s) c v es ≡ some_match scope (sample z) c v es) (sym d.same) (sym (match_same scope s.values s.ticks d.x s.answer w d.known c v es h))

  true_on : (w : Bool) (e : Exp) → May w (reads e) → (s t : State) → Goes w s t → is_true scope e s ≡ is_true scope e t
  true_on w e h s t d = ap (λ v. not (v == 0)) (value_on w e h (form scope.names e) s t d)

  goes_on_on : (w : Bool) (e : Exp) → May w (reads e) → (s t : State) → Goes w s t → goes_on scope e s ≡ goes_on scope e t
  goes_on_on w e h s t d = rw (finished_same first w d, true_on w e h s t d) refl

  -- ---- loops

  module _ (w : Bool) where
    turns_lead : (n : ℕ) (test : State → Bool) (turn : State → State) → ((s t : State) → Goes w s t → test s ≡ test t) → ((s t : State) → Goes w s t → Goes w (turn s) (turn t))
        → (s t : State) → Goes w s t → Goes w (turns n test turn s) (turns n test turn t)
    turns_lead zero test turn f g s t d = d
    turns_lead (suc n) test turn f g s t d = at (test s) (test t) (f s t d) (turns_lead n test turn f g (turn s) (turn t) (g s t d))
      where
        at : (b c : Bool) → b ≡ c → Goes w (turns n test turn (turn s)) (turns n test turn (turn t))
            → Goes w (elim b [ true ↦ turns n test turn (turn s) | false ↦ s ]) (elim c [ true ↦ turns n test turn (turn t) | false ↦ t ])
        at true true e k = k
        at false false e k = d
        at true false e k = let z : ⊥ = cc in absurd z
        at false true e k = let z : ⊥ = cc in absurd z

    times_lead : (n : ℕ) (turn : State → State) → ((s t : State) → Goes w s t → Goes w (turn s) (turn t)) → (s t : State) → Goes w s t → Goes w (times n turn s) (times n turn t)
    times_lead zero turn g s t d = d
    times_lead (suc n) turn g s t d = times_lead n turn g (turn s) (turn t) (g s t d)

    some_turn_on : (n : ℕ) (test : State → Bool) (turn : State → State) (r : State → Bool) → ((s t : State) → Goes w s t → test s ≡ test t) → ((s t : State) → Goes w s t → Goes w (turn s) (turn t))
        → ((s t : State) → Goes w s t → r s ≡ r t) → (s t : State) → Goes w s t → some_turn n test turn r s ≡ some_turn n test turn r t
    some_turn_on zero test turn r f g h s t d = refl
    some_turn_on (suc n) test turn r f g h s t d = at (test s) (test t) (f s t d) (h s t d) (some_turn_on n test turn r f g h (turn s) (turn t) (g s t d))
      where
        at : (b c : Bool) → b ≡ c → r s ≡ r t → some_turn n test turn r (turn s) ≡ some_turn n test turn r (turn t)
            → ◌≡◌ {A = Bool} (elim b [ true ↦ r s || some_turn n test turn r (turn s) | false ↦ false ]) (elim c [ true ↦ r t || some_turn n test turn r (turn t) | false ↦ false ])
        at true true e k l = rw (k, l) refl
        at false false e k l = refl
        at true false e k l = let z : ⊥ = cc in absurd z
        at false true e k l = let z : ⊥ = cc in absurd z

  -- ---- one statement behind another

  -- the statement keeps such states, and holds a call in both or in none
  abbrev Keeps : Stm → Type 0
  Keeps a = (w : Bool) → May w (asks_before a) → (s t : State) → Goes w s t → Goes w (exec scope a s) (exec scope a t)

  abbrev Agrees : Stm → Type 0
  Agrees a = (w : Bool) → May w (asks_before a) → (s t : State) → Goes w s t → holds scope s a ≡ holds scope t a

  -- behind a call that gives an answer answers are known, or the run has finished
  known_behind : (a : Stm) → answers a ≡ true → asks_before a ≡ false → (s t : State) → Goes false s t → s.finished ≡ false → Goes true (exec scope a s) (exec scope a t)
  known_behind (Sys task) h k s t d f =
      let g : t.finished ≡ false = sym (finished_same first false d) ∙ f in
      let x : Goes true (if false then s else called scope task s) (if false then t else called scope task t) = answers_lead first false scope task h k s t d in
      subst (λ b. Goes true (if b then s else called scope task s) (if t.finished then t else called scope task t)) (sym f)
      (subst (λ b. Goes true (called scope task s) (if b then t else called scope task t)) (sym g) x)
  known_behind a h k s t d f = let z : ⊥ = cc in absurd z

  pub answer_behind : (a : Stm) → answers a ≡ true → asks_before a ≡ false → (s t : State) → Goes false s t → s.finished ≡ false → (exec scope a s).answer ≡ (exec scope a t).answer
  answer_behind a h k s t d f =
      let x : Goes true (exec scope a s) (exec scope a t) = known_behind a h k s t d f in
      let e : (exec scope a t).answer ≡ x.x = ap (λ (z : State). z.answer) x.same in
      sym (e ∙ x.known)

  then_kept : (a b : Stm) → Keeps a → Keeps b → Keeps (Then a b)
  then_kept a b f g true h s t d = g true tt _ _ (f true tt s t d)
  then_kept a b f g false h s t d = at (answers a) refl (split false (asks_before a) _ h).1 s.finished refl
    where
      plain : asks_before a ≡ false
      plain = (split false (asks_before a) (not (answers a) && asks_before b) h).0

      at : (i : Bool) → answers a ≡ i → (not (answers a) && asks_before b) ≡ false → (j : Bool) → s.finished ≡ j → Goes false (exec scope b (exec scope a s)) (exec scope b (exec scope a t))
      at false e k j i =
          let z : asks_before b ≡ false = subst (λ u. (not u && asks_before b) ≡ false) e k in
          g false z _ _ (f false plain s t d)
      at true e k false i = weakly first false (g true tt _ _ (known_behind a e plain s t d i))
      at true e k true i =
          let i' : t.finished ≡ true = sym (finished_same first false d) ∙ i in
          let x : exec scope b (exec scope a s) ≡ s = ap (exec scope b) (exec_over scope a s i) ∙ exec_over scope b s i in
          let y : exec scope b (exec scope a t) ≡ t = ap (exec scope b) (exec_over scope a t i') ∙ exec_over scope b t i' in
          rw (x, y) d

  call_holds : (a : Stm) → answers a ≡ true → (s : State) → holds scope s a ≡ true
  call_holds (Sys task) h s = refl
  call_holds a h s = let z : ⊥ = cc in absurd z

  then_agrees : (a b : Stm) → Agrees a → Agrees b → Agrees (Then a b)
  then_agrees a b f g true h s t d = rw (f true tt s t d, g true tt s t d) refl
  then_agrees a b f g false h s t d = at (answers a) refl (split false (asks_before a) _ h).1
    where
      plain : asks_before a ≡ false
      plain = (split false (asks_before a) (not (answers a) && asks_before b) h).0

      at : (i : Bool) → answers a ≡ i → (not (answers a) && asks_before b) ≡ false → (holds scope s a || holds scope s b) ≡ (holds scope t a || holds scope t b)
      at false e k =
          let z : asks_before b ≡ false = subst (λ u. (not u && asks_before b) ≡ false) e k in
          rw (f false plain s t d, g false z s t d) refl
      at true e k = rw (call_holds a e s, call_holds a e t) refl

  -- ---- statements

  mutual
    agrees : (a : Stm) → Agrees a
    agrees Nop w h s t d = refl
    agrees (Then a b) w h s t d = then_agrees a b (agrees a) (agrees b) w h s t d
    agrees (If u a b) w h s t d =
        let g = split w (reads u) (asks_before a || asks_before b) h in
        let f = split w (asks_before a) (asks_before b) g.1 in
        rw (agrees a w f.0 s t d, agrees b w f.1 s t d) refl
    agrees (Case e items) w h s t d = items_agree items w (split w (reads e) (items_ask_before items) h).1 s t d
    agrees (For k start test step a) w h s t d =
        let g = split w (asks_before start) (reads test || (asks_before step || asks_before a)) h in
        let f = split w (reads test) (asks_before step || asks_before a) g.1 in
        let e = split w (asks_before step) (asks_before a) f.1 in
        some_turn_on w most_turns (goes_on scope test) (exec scope step) (λ x. holds scope x a) (goes_on_on w test f.0) (exec_leads step w e.0) (agrees a w e.1)
        (exec scope start s) (exec scope start t) (exec_leads start w g.0 s t d)
    agrees (Repeat n a) w h s t d = rw (agrees a w h s t d) refl
    agrees (Set x e) w h s t d = refl
    agrees (Later x e) w h s t d = refl
    agrees (Sys task) w h s t d = refl

    items_agree : (items : Items) (w : Bool) → May w (items_ask_before items) → (s t : State) → Goes w s t → items_hold scope s items ≡ items_hold scope t items
    items_agree NoItems w h s t d = refl
    items_agree (Labelled es a others) w h s t d =
        let g = split w (some_read es) (asks_before a || items_ask_before others) h in
        let f = split w (asks_before a) (items_ask_before others) g.1 in
        rw (agrees a w f.0 s t d, items_agree others w f.1 s t d) refl
    items_agree (Default a others) w h s t d =
        let f = split w (asks_before a) (items_ask_before others) h in
        rw (agrees a w f.0 s t d, items_agree others w f.1 s t d) refl

    pub exec_leads : (a : Stm) → Keeps a
    exec_leads Nop w h s t d = d
    exec_leads (Then a b) w h s t d = then_kept a b (exec_leads a) (exec_leads b) w h s t d
    exec_leads (If u a b) w h s t d =
        let g = split w (reads u) (asks_before a || asks_before b) h in
        let f = split w (asks_before a) (asks_before b) g.1 in
        let held : (asks u || (holds scope s a || holds scope s b)) ≡ (asks u || (holds scope t a || holds scope t b)) = rw (agrees a w f.0 s t d, agrees b w f.1 s t d) refl in
        let c = choice_leads first w _ _ s t held d in
        leads_by first w (is_true scope u s) (is_true scope u t) _ _ _ _ (true_on w u g.0 s t d) (exec_leads a w f.0 _ _ c) (exec_leads b w f.1 _ _ c)
    exec_leads (Case e items) w h s t d =
        let g = split w (reads e) (items_ask_before items) h in
        let k = items_form scope.names (form scope.names e) items in
        let v = value_on w e g.0 k s t d in
        let c = choice_leads first w (items_hold scope s items) (items_hold scope t items) s t (items_agree items w g.1 s t d) d in
        let x = items_lead items w g.1 (value scope (sample t) e k) k _ _ _ _ (default_leads items w g.1 _ _ c) c in
        subst (λ (n : ℕ). Goes w (exec_items scope n k items (exec_default scope items (counted_if (items_hold scope s items) s)) (counted_if (items_hold scope s items) s)) (exec scope (Case e items) t)) (sym v) x
    exec_leads (For k start test step a) w h s t d =
        let g = split w (asks_before start) (reads test || (asks_before step || asks_before a)) h in
        let f = split w (reads test) (asks_before step || asks_before a) g.1 in
        let e = split w (asks_before step) (asks_before a) f.1 in
        restored_leads first w k s t _ _ d (turns_lead w most_turns (goes_on scope test) (λ y. exec scope step (exec scope a y)) (goes_on_on w test f.0)
        (λ y z i. exec_leads step w e.0 _ _ (exec_leads a w e.1 y z i)) (exec scope start s) (exec scope start t) (exec_leads start w g.0 s t d))
    exec_leads (Repeat n a) w h s t d = times_lead w n (exec scope a) (exec_leads a w h) s t d
    exec_leads (Set x e) w h s t d = leads_by first w s.finished t.finished s _ t _ (finished_same first w d) d (sets_lead first w scope x e h s t d)
    exec_leads (Later x e) w h s t d = leads_by first w s.finished t.finished s _ t _ (finished_same first w d) d (delays_lead first w scope x e h s t d)
    exec_leads (Sys task) w h s t d = leads_by first w s.finished t.finished s _ t _ (finished_same first w d) d (calls_lead first w scope task h s t d)

    items_lead : (items : Items) (w : Bool) → May w (items_ask_before items) → (v : ℕ) (c : Form) (s t x y : State) → Goes w x y → Goes w s t → Goes w (exec_items scope v c items x s) (exec_items scope v c items y t)
    items_lead NoItems w h v c s t x y o d = o
    items_lead (Labelled es a others) w h v c s t x y o d =
        let g = split w (some_read es) (asks_before a || items_ask_before others) h in
        let f = split w (asks_before a) (items_ask_before others) g.1 in
        leads_by first w (some_match scope (sample s) c v es) (some_match scope (sample t) c v es) _ _ _ _ (match_on w c v es g.0 s t d)
        (exec_leads a w f.0 s t d) (items_lead others w f.1 v c s t x y o d)
    items_lead (Default a others) w h v c s t x y o d = items_lead others w (split w (asks_before a) (items_ask_before others) h).1 v c s t x y o d

    default_leads : (items : Items) (w : Bool) → May w (items_ask_before items) → (s t : State) → Goes w s t → Goes w (exec_default scope items s) (exec_default scope items t)
    default_leads NoItems w h s t d = d
    default_leads (Labelled es a others) w h s t d =
        default_leads others w (split w (asks_before a) (items_ask_before others) (split w (some_read es) (asks_before a || items_ask_before others) h).1).1 s t d
    default_leads (Default a others) w h s t d = exec_leads a w (split w (asks_before a) (items_ask_before others) h).0 s t d

-- states that are behind one another stay so over a statement that does not hang on the answer before it
pub exec_behind : (scope : Scope) (a : Stm) (first s t : State) → asks_before a ≡ false → IsBehind first s t → IsBehind first (exec scope a s) (exec scope a t)
exec_behind scope a first s t h b = to_behind first (exec_leads scope first a false h s t (of_behind first s t b))
