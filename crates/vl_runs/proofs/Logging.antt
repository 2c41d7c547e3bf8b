-- What the log of a statement says: its acts are counted, none is there once the run has finished or where the statement holds
-- no call, and statements pause right before the first act of their log.
use Rattle.std.proofs.Common.{◌≡◌, ℕ, zero, suc, ◌+◌, Bool, true, false, List, [], ◌∷◌, ◌++◌, length, refl, sym, ◌∙◌, ap, arith, subst, add-one, append_assoc, length-append}
use Rattle.std.specs.Prelude.{◌||◌, ◌&&◌, not, if◌then◌else◌, All}
use Rattle.std.proofs.lemmas.List.Elements.{All-cons, All-head, All-tail}
use Rattle.vl_paths.specs.vl_design.specs.declared.design.Form.{Form}
use Rattle.vl_paths.specs.vl_design.specs.Syntax.{Exp, Task, Stm, Nop, Then, If, Case, For, Repeat, Set, Later, Sys, Items, NoItems, Labelled, Default}
use Rattle.vl_paths.specs.vl_design.specs.Width.{Scope, form}
use Rattle.vl_paths.specs.vl_design.specs.Value.{value}
use Rattle.vl_paths.specs.vl_design.specs.State.{State, sample, counted}
use Rattle.vl_paths.specs.vl_design.specs.Tasks.{called}
use Rattle.vl_paths.specs.vl_design.specs.Exec.{exec, exec_items, exec_default, turns, times, restored, counted_if, items_form, some_match, is_true, goes_on, most_turns, holds, items_hold, asks}
use Rattle.vl_paths.specs.vl_design.specs.Acts.{Pause, Through, AtCall, AtChoice, default_body, chosen_body, branch_of, upto, uptos}
use Rattle.vl_paths.specs.vl_design.specs.Laws.{IsUnrolledStm, can_act, items_can_act}
use Rattle.vl_paths.specs.vl_design.proofs.Unread.{or_false}
use Rattle.vl_paths.specs.vl_design.proofs.Resting.{exec_over, exec_rests, none_held, holds_none, items_hold_none, done_counts, case_done}
use Rattle.vl_paths.specs.vl_design.proofs.Counting.{either_unrolled, chosen_unrolled, default_unrolled}
use Rattle.vl_paths.specs.vl_design.proofs.Agreeing.{alive, counted_once}
use Rattle.vl_runs.specs.Log.{Moment, call_at, choice_at, choice_if, turn_moments, moments, item_moments, default_moments, CountsUp, exec_all, all_moments, PausesIn}
use Rattle.vl_paths.specs.vl_design.proofs.Resting.{uncounted}

-- ---- once finished, and where no call is held, there is no act

unchosen : (b : Bool) (s : State) → s.finished ≡ true → choice_if b s ≡ []
unchosen true s h = rw h refl
unchosen false s h = refl

none_by : (b : Bool) (xs ys : List Moment) → xs ≡ [] → ys ≡ [] → (if b then xs else ys) ≡ []
none_by true xs ys e f = e
none_by false xs ys e f = f

none_both : (xs ys : List Moment) → xs ≡ [] → ys ≡ [] → xs ++ ys ≡ []
none_both xs ys e f = ap (λ z. z ++ ys) e ∙ f

none_turn : (b : Bool) (xs : List Moment) → xs ≡ [] → ◌≡◌ {A = List Moment} (elim b [ true ↦ xs | false ↦ [] ]) []
none_turn true xs h = h
none_turn false xs h = refl

turns_none : (n : ℕ) (test : State → Bool) (turn : State → State) (log : State → List Moment) → ((s : State) → log s ≡ []) → (s : State) → turn_moments n test turn log s ≡ []
turns_none zero test turn log f s = refl
turns_none (suc n) test turn log f s = none_turn (test s) _ (none_both _ _ (f s) (turns_none n test turn log f (turn s)))

-- where a turn changes nothing
turns_over : (n : ℕ) (test : State → Bool) (turn : State → State) (log : State → List Moment) (s : State) → turn s ≡ s → log s ≡ [] → turn_moments n test turn log s ≡ []
turns_over zero test turn log s e f = refl
turns_over (suc n) test turn log s e f = none_turn (test s) _ (none_both _ _ f (ap (turn_moments n test turn log) e ∙ turns_over n test turn log s e f))

module _ (scope : Scope) where
  mutual
    pub none_over : (a : Stm) (s : State) → s.finished ≡ true → moments scope a s ≡ []
    none_over Nop s h = refl
    none_over (Then a b) s h = none_both _ _ (none_over a s h) (ap (moments scope b) (exec_over scope a s h) ∙ none_over b s h)
    none_over (If t a b) s h =
        let held = asks t || (holds scope s a || holds scope s b) in
        let e = uncounted held s h in
        none_both _ _ (unchosen held s h)
        (none_by (is_true scope t s) _ _ (ap (moments scope a) e ∙ none_over a s h) (ap (moments scope b) e ∙ none_over b s h))
    none_over (Case e items) s h =
        let held = items_hold scope s items in
        let f = uncounted held s h in
        let c = items_form scope.names (form scope.names e) items in
        none_both _ _ (unchosen held s h)
        (ap (λ z. item_moments scope (value scope (sample s) e c) c items (default_moments scope items z) z) f ∙ items_over items _ c _ s h (default_over items s h))
    none_over (For k start test step a) s h =
        let e = exec_over scope start s h in
        let f = exec_over scope a s h in
        let turn : exec scope step (exec scope a s) ≡ s = ap (exec scope step) f ∙ exec_over scope step s h in
        let log : moments scope a s ++ moments scope step (exec scope a s) ≡ [] = none_both _ _ (none_over a s h) (ap (moments scope step) f ∙ none_over step s h) in
        let go = turn_moments most_turns (goes_on scope test) (λ t. exec scope step (exec scope a t)) (λ t. moments scope a t ++ moments scope step (exec scope a t)) in
        none_both _ _ (none_over start s h)
        (ap go e ∙ turns_over most_turns (goes_on scope test) (λ t. exec scope step (exec scope a t)) (λ t. moments scope a t ++ moments scope step (exec scope a t)) s turn log)
    none_over (Repeat n a) s h = turns_over n (λ t. true) (exec scope a) (moments scope a) s (exec_over scope a s h) (none_over a s h)
    none_over (Set t e) s h = refl
    none_over (Later t e) s h = refl
    none_over (Sys task) s h = rw h refl

    items_over : (items : Items) (v : ℕ) (c : Form) (other : List Moment) (s : State) → s.finished ≡ true → other ≡ [] → item_moments scope v c items other s ≡ []
    items_over NoItems v c other s h e = e
    items_over (Labelled es a others) v c other s h e = none_by (some_match scope (sample s) c v es) _ _ (none_over a s h) (items_over others v c other s h e)
    items_over (Default a others) v c other s h e = items_over others v c other s h e

    default_over : (items : Items) (s : State) → s.finished ≡ true → default_moments scope items s ≡ []
    default_over NoItems s h = refl
    default_over (Labelled es a others) s h = default_over others s h
    default_over (Default a others) s h = none_over a s h

  unheld : (b : Bool) (s : State) → b ≡ false → choice_if b s ≡ []
  unheld b s h = rw h refl

  mutual
    pub none_acts : (a : Stm) → can_act a ≡ false → (s : State) → moments scope a s ≡ []
    none_acts Nop h s = refl
    none_acts (Then a b) h s = let g = or_false (can_act a) (can_act b) h in none_both _ _ (none_acts a g.0 s) (none_acts b g.1 _)
    none_acts (If t a b) h s =
        let g = or_false (asks t) (can_act a || can_act b) h in
        let f = or_false (can_act a) (can_act b) g.1 in
        none_both _ _ (unheld _ s (holds_none scope (If t a b) h s)) (none_by (is_true scope t s) _ _ (none_acts a f.0 _) (none_acts b f.1 _))
    none_acts (Case e items) h s =
        none_both _ _ (unheld _ s (items_hold_none scope items h s)) (items_act items h _ _ _ _ (default_acts items h _))
    none_acts (For k start test step a) h s =
        let g = or_false (can_act start) (can_act step || can_act a) h in
        let f = or_false (can_act step) (can_act a) g.1 in
        none_both _ _ (none_acts start g.0 s)
        (turns_none most_turns (goes_on scope test) (λ t. exec scope step (exec scope a t)) (λ t. moments scope a t ++ moments scope step (exec scope a t))
        (λ t. none_both _ _ (none_acts a f.1 t) (none_acts step f.0 (exec scope a t))) (exec scope start s))
    none_acts (Repeat n a) h s = turns_none n (λ t. true) (exec scope a) (moments scope a) (none_acts a h) s
    none_acts (Set t e) h s = refl
    none_acts (Later t e) h s = refl
    none_acts (Sys task) h s = let z : ⊥ = cc in absurd z

    items_act : (items : Items) → items_can_act items ≡ false → (v : ℕ) (c : Form) (other : List Moment) (s : State) → other ≡ [] → item_moments scope v c items other s ≡ []
    items_act NoItems h v c other s e = e
    items_act (Labelled es a others) h v c other s e =
        let g = or_false (can_act a) (items_can_act others) h in
        none_by (some_match scope (sample s) c v es) _ _ (none_acts a g.0 s) (items_act others g.1 v c other s e)
    items_act (Default a others) h v c other s e = let g = or_false (can_act a) (items_can_act others) h in items_act others g.1 v c other s e

    default_acts : (items : Items) → items_can_act items ≡ false → (s : State) → default_moments scope items s ≡ []
    default_acts NoItems h s = refl
    default_acts (Labelled es a others) h s = let g = or_false (can_act a) (items_can_act others) h in default_acts others g.1 s
    default_acts (Default a others) h s = let g = or_false (can_act a) (items_can_act others) h in none_acts a g.0 s

-- ---- each act is counted

record Counts (s t : State) (ms : List Moment) : Type 0 where
  pub count : t.count ≡ s.count + length ms
  pub up : CountsUp s.count ms

counts_none : (s t : State) → t.count ≡ s.count → Counts s t []
counts_none s t e = record { count = omega (arith, e); up = tt }

counts_one : (s t : State) (m : Moment) → t.count ≡ s.count + 1 → m.before ≡ s → m.after ≡ t → Counts s t (m ∷ [])
counts_one s t m e f g = record { count = omega (arith, e); up = (ap (λ z. z.count) f, ap (λ z. z.count) g ∙ (e ∙ add-one s.count), tt) }

up_on : (n k : ℕ) (xs ys : List Moment) → k ≡ n + length xs → CountsUp n xs → CountsUp k ys → CountsUp n (xs ++ ys)
up_on n k [] ys e f g = let h : k ≡ n = omega (arith, e) in subst (λ j. CountsUp j ys) h g
up_on n k (x ∷ xs) ys e f g = let h : k ≡ suc n + length xs = omega (arith, e) in (f.0, f.1, up_on (suc n) k xs ys h f.2 g)

counts_on : {a b c : State} {xs ys : List Moment} → Counts a b xs → Counts b c ys → Counts a c (xs ++ ys)
counts_on {a} {b} {xs = xs} {ys = ys} f g =
    let e = length-append xs ys in
    let h = f.count in
    let i = g.count in
    record { count = omega (arith, e, h, i); up = up_on a.count b.count xs ys h f.up g.up }

counts_by : (b : Bool) (s x y : State) (xs ys : List Moment) → Counts s x xs → Counts s y ys → Counts s (if b then x else y) (if b then xs else ys)
counts_by true s x y xs ys f g = f
counts_by false s x y xs ys f g = g

counts_choice : (b : Bool) (s : State) → Counts s (counted_if b s) (choice_if b s)
counts_choice b s = at (b && not s.finished)
  where
    at : (x : Bool) → Counts s (if x then counted s else s) (if x then choice_at s ∷ [] else [])
    at true = counts_one s (counted s) (choice_at s) refl refl refl
    at false = counts_none s s refl

counts_turns : (n : ℕ) (test : State → Bool) (turn : State → State) (log : State → List Moment) → ((s : State) → Counts s (turn s) (log s)) → (s : State) → Counts s (turns n test turn s) (turn_moments n test turn log s)
counts_turns zero test turn log f s = counts_none s s refl
counts_turns (suc n) test turn log f s = at (test s) (counts_on (f s) (counts_turns n test turn log f (turn s)))
  where
    at : (b : Bool) → Counts s (turns n test turn (turn s)) (log s ++ turn_moments n test turn log (turn s))
        → Counts s (elim b [ true ↦ turns n test turn (turn s) | false ↦ s ]) (elim b [ true ↦ log s ++ turn_moments n test turn log (turn s) | false ↦ [] ])
    at true h = h
    at false h = counts_none s s refl

counts_times : (n : ℕ) (turn : State → State) (log : State → List Moment) → ((s : State) → Counts s (turn s) (log s)) → (s : State) → Counts s (times n turn s) (turn_moments n (λ t. true) turn log s)
counts_times zero turn log f s = counts_none s s refl
counts_times (suc n) turn log f s = counts_on (f s) (counts_times n turn log f (turn s))

module _ (scope : Scope) where
  counts_call : (task : Task) (s : State) → Counts s (called scope task s) (call_at scope task s ∷ [])
  counts_call task s = counts_one s (called scope task s) (call_at scope task s) (ap (λ n. n + 1) (done_counts scope task s)) refl refl

  -- a loop's variable is set back
  behind_loop : {t : State} {ms : List Moment} (k : ℕ) (s : State) → Counts s t ms → Counts s (restored k s t) ms
  behind_loop k s c = record { count = c.count; up = c.up }

  mutual
    log_counts : (a : Stm) (s : State) → Counts s (exec scope a s) (moments scope a s)
    log_counts Nop s = counts_none s s refl
    log_counts (Then a b) s = counts_on (log_counts a s) (log_counts b (exec scope a s))
    log_counts (If t a b) s =
        let held = asks t || (holds scope s a || holds scope s b) in
        let s' = counted_if held s in
        counts_on (counts_choice held s) (counts_by (is_true scope t s) s' _ _ _ _ (log_counts a s') (log_counts b s'))
    log_counts (Case e items) s =
        let held = items_hold scope s items in
        let s' = counted_if held s in
        counts_on (counts_choice held s) (items_count items _ _ _ _ s' (default_counts items s'))
    log_counts (For k start test step a) s =
        behind_loop k s (counts_on (log_counts start s)
        (counts_turns most_turns (goes_on scope test) (λ t. exec scope step (exec scope a t)) (λ t. moments scope a t ++ moments scope step (exec scope a t))
        (λ t. counts_on (log_counts a t) (log_counts step (exec scope a t))) (exec scope start s)))
    log_counts (Repeat n a) s = counts_times n (exec scope a) (moments scope a) (log_counts a) s
    log_counts (Set t e) s = counts_none s (exec scope (Set t e) s) (exec_rests scope (Set t e) refl s).count
    log_counts (Later t e) s = counts_none s (exec scope (Later t e) s) (exec_rests scope (Later t e) refl s).count
    log_counts (Sys task) s = counts_by s.finished s s _ [] _ (counts_none s s refl) (counts_call task s)

    items_count : (items : Items) (v : ℕ) (c : Form) (other : State) (others : List Moment) (s : State) → Counts s other others → Counts s (exec_items scope v c items other s) (item_moments scope v c items others s)
    items_count NoItems v c other others s h = h
    items_count (Labelled es a more) v c other others s h = counts_by (some_match scope (sample s) c v es) s _ _ _ _ (log_counts a s) (items_count more v c other others s h)
    items_count (Default a more) v c other others s h = items_count more v c other others s h

    default_counts : (items : Items) (s : State) → Counts s (exec_default scope items s) (default_moments scope items s)
    default_counts NoItems s = counts_none s s refl
    default_counts (Labelled es a others) s = default_counts others s
    default_counts (Default a others) s = log_counts a s

module _ (scope : Scope) where
  pub each_counts : (a : Stm) (s : State) → (exec scope a s).count ≡ s.count + length (moments scope a s)
  each_counts a s = (log_counts scope a s).count

  pub counts_up : (a : Stm) (s : State) → CountsUp s.count (moments scope a s)
  counts_up a s = (log_counts scope a s).up

-- ---- statements pause before their first act

module _ (scope : Scope) where
  either_log : (b : Bool) (x y : Stm) (s : State) → (if b then moments scope x s else moments scope y s) ≡ moments scope (if b then x else y) s
  either_log true x y s = refl
  either_log false x y s = refl

  either_done : (b : Bool) (x y : Stm) (s : State) → (if b then exec scope x s else exec scope y s) ≡ exec scope (if b then x else y) s
  either_done true x y s = refl
  either_done false x y s = refl

  chosen_once : (b : Bool) (s : State) → b ≡ true → s.finished ≡ false → choice_if b s ≡ choice_at s ∷ []
  chosen_once b s h f = rw (h, f) refl

  if_log : (t : Exp) (a b : Stm) (s : State) → (asks t || (holds scope s a || holds scope s b)) ≡ true → s.finished ≡ false →
      moments scope (If t a b) s ≡ choice_at s ∷ moments scope (if is_true scope t s then a else b) (counted s)
  if_log t a b s h f =
      let held = asks t || (holds scope s a || holds scope s b) in
      let c = is_true scope t s in
      ap (λ z. choice_if held s ++ (if c then moments scope a z else moments scope b z)) (counted_once held s h f) ∙
      (ap (λ z. z ++ (if c then moments scope a (counted s) else moments scope b (counted s))) (chosen_once held s h f) ∙
      ap (λ z. choice_at s ∷ z) (either_log c a b (counted s)))

  if_done : (t : Exp) (a b : Stm) (s : State) → (asks t || (holds scope s a || holds scope s b)) ≡ true → s.finished ≡ false →
      exec scope (If t a b) s ≡ exec scope (if is_true scope t s then a else b) (counted s)
  if_done t a b s h f =
      let c = is_true scope t s in
      ap (λ z. if c then exec scope a z else exec scope b z) (counted_once _ s h f) ∙ either_done c a b (counted s)

  default_log : (items : Items) (s : State) → default_moments scope items s ≡ moments scope (default_body items) s
  default_log NoItems s = refl
  default_log (Labelled es a others) s = default_log others s
  default_log (Default a others) s = refl

  chosen_log : (items : Items) (v : ℕ) (c : Form) (other : Stm) (s : State) →
      item_moments scope v c items (moments scope other s) s ≡ moments scope (chosen_body scope (sample s) v c items other) s
  chosen_log NoItems v c other s = refl
  chosen_log (Labelled es a others) v c other s =
      let m = some_match scope (sample s) c v es in
      ap (λ z. if m then moments scope a s else z) (chosen_log others v c other s) ∙ either_log m a _ s
  chosen_log (Default a others) v c other s = chosen_log others v c other s

  case_log : (e : Exp) (items : Items) (s : State) → items_hold scope s items ≡ true → s.finished ≡ false →
      moments scope (Case e items) s ≡ choice_at s ∷ moments scope (branch_of scope (sample s) (Case e items)) (counted s)
  case_log e items s h f =
      let held = items_hold scope s items in
      let c = items_form scope.names (form scope.names e) items in
      let v = value scope (sample s) e c in
      ap (λ z. choice_if held s ++ item_moments scope v c items (default_moments scope items z) z) (counted_once held s h f) ∙
      (ap (λ z. z ++ item_moments scope v c items (default_moments scope items (counted s)) (counted s)) (chosen_once held s h f) ∙
      ap (λ z. choice_at s ∷ z)
      (ap (λ z. item_moments scope v c items z (counted s)) (default_log items (counted s)) ∙ chosen_log items v c (default_body items) (counted s)))

  -- the pause is before the first of these acts, which lead to the state e, and what is left has no loops
  abbrev pub Pauses : List Moment → State → Pause → Type 0
  Pauses ms e (Through s) = PausesIn scope ms e (Through s) × (s.finished ≡ false)
  Pauses ms e (AtCall task s rest) = PausesIn scope ms e (AtCall task s rest) × (s.finished ≡ false) × All IsUnrolledStm rest
  Pauses ms e (AtChoice s rest) = PausesIn scope ms e (AtChoice s rest) × (s.finished ≡ false) × All IsUnrolledStm rest

  pub pauses_in : (ms : List Moment) (e : State) (p : Pause) → Pauses ms e p → PausesIn scope ms e p
  pauses_in ms e (Through s) h = h.0
  pauses_in ms e (AtCall task s rest) h = h.0
  pauses_in ms e (AtChoice s rest) h = h.0

  module _ (ms : List Moment) (e : State) where
    -- where a statement is through, and has no act
    passed : (x : Stm) (rest : List Stm) (go : State → Pause) (s : State) → can_act x ≡ false → s.finished ≡ false
        → ((t : State) → t.finished ≡ false → all_moments scope rest t ≡ ms → exec_all scope rest t ≡ e → Pauses ms e (go t))
        → moments scope x s ++ all_moments scope rest (exec scope x s) ≡ ms → exec_all scope rest (exec scope x s) ≡ e → Pauses ms e (go (exec scope x s))
    passed x rest go s h f g m i =
        g (exec scope x s) ((exec_rests scope x h s).finished ∙ f) (ap (λ z. z ++ all_moments scope rest (exec scope x s)) (sym (none_acts scope x h s)) ∙ m) i

    -- where a branch is chosen
    at_choice : (x y : Stm) (rest : List Stm) (s : State) → s.finished ≡ false → IsUnrolledStm y → All IsUnrolledStm rest
        → moments scope x s ≡ choice_at s ∷ moments scope y (counted s) → exec scope x s ≡ exec scope y (counted s)
        → moments scope x s ++ all_moments scope rest (exec scope x s) ≡ ms → exec_all scope rest (exec scope x s) ≡ e → Pauses ms e (AtChoice s (y ∷ rest))
    at_choice x y rest s f u w l d m i =
        let log : moments scope x s ++ all_moments scope rest (exec scope x s) ≡ choice_at s ∷ (moments scope y (counted s) ++ all_moments scope rest (exec scope y (counted s))) =
        ap (λ z. z ++ all_moments scope rest (exec scope x s)) l ∙ ap (λ z. choice_at s ∷ (moments scope y (counted s) ++ all_moments scope rest z)) d in
        ((sym m ∙ log, ap (exec_all scope rest) (sym d) ∙ i), f, All-cons IsUnrolledStm y rest u w)

    upto_pauses : (x : Stm) (rest : List Stm) (go : State → Pause) (s : State) → IsUnrolledStm x → All IsUnrolledStm rest → s.finished ≡ false
        → ((t : State) → t.finished ≡ false → all_moments scope rest t ≡ ms → exec_all scope rest t ≡ e → Pauses ms e (go t))
        → moments scope x s ++ all_moments scope rest (exec scope x s) ≡ ms → exec_all scope rest (exec scope x s) ≡ e → Pauses ms e (upto scope x rest go s)
    upto_pauses Nop rest go s u w f g m i = g s f m i
    upto_pauses (Then a b) rest go s u w f g m i =
        upto_pauses a (b ∷ rest) (upto scope b rest go) s u.0 (All-cons IsUnrolledStm b rest u.1 w) f (λ t k n j. upto_pauses b rest go t u.1 w k g n j)
        (sym (append_assoc (moments scope a s) (moments scope b (exec scope a s)) (all_moments scope rest (exec scope b (exec scope a s)))) ∙ m) i
    upto_pauses (If t a b) rest go s u w f g m i = at (asks t || (holds scope s a || holds scope s b)) refl
      where
        at : (held : Bool) → (asks t || (holds scope s a || holds scope s b)) ≡ held
            → Pauses ms e (if held then AtChoice s ((if is_true scope t s then a else b) ∷ rest) else go (exec scope (If t a b) s))
        at true h = at_choice (If t a b) _ rest s f (either_unrolled (is_true scope t s) a b u.0 u.1) w (if_log t a b s h f) (if_done t a b s h f) m i
        at false h = passed (If t a b) rest go s (none_held scope (If t a b) u s h) f g m i
    upto_pauses (Case c items) rest go s u w f g m i = at (items_hold scope s items) refl
      where
        at : (held : Bool) → items_hold scope s items ≡ held → Pauses ms e (if held then AtChoice s (branch_of scope (sample s) (Case c items) ∷ rest) else go (exec scope (Case c items) s))
        at true h =
            let done = case_done scope c items s ∙ ap (exec scope (branch_of scope (sample s) (Case c items))) (counted_once _ s h f) in
            at_choice (Case c items) _ rest s f (chosen_unrolled scope (sample s) _ _ items _ u (default_unrolled items u)) w (case_log c items s h f) done m i
        at false h = passed (Case c items) rest go s (none_held scope (Case c items) u s h) f g m i
    upto_pauses (For k begin test step a) rest go s u w f g m i = absurd u
    upto_pauses (Repeat n a) rest go s u w f g m i = absurd u
    upto_pauses (Set t v) rest go s u w f g m i = passed (Set t v) rest go s refl f g m i
    upto_pauses (Later t v) rest go s u w f g m i = passed (Later t v) rest go s refl f g m i
    upto_pauses (Sys task) rest go s u w f g m i =
        let done = alive s.finished s (called scope task s) f in
        let log : moments scope (Sys task) s ++ all_moments scope rest (exec scope (Sys task) s) ≡ call_at scope task s ∷ all_moments scope rest (called scope task s) =
        ap (λ z. z ++ all_moments scope rest (exec scope (Sys task) s)) (alive s.finished [] (call_at scope task s ∷ []) f) ∙
        ap (λ z. call_at scope task s ∷ all_moments scope rest z) done in
        ((sym m ∙ log, ap (exec_all scope rest) (sym done) ∙ i), f, w)

    pub uptos_pause : (xs : List Stm) (s : State) → All IsUnrolledStm xs → s.finished ≡ false → all_moments scope xs s ≡ ms → exec_all scope xs s ≡ e → Pauses ms e (uptos scope xs s)
    uptos_pause [] s u f m i = ((sym m, i), f)
    uptos_pause (x ∷ xs) s u f m i =
        upto_pauses x xs (uptos scope xs) s (All-head IsUnrolledStm x xs u) (All-tail IsUnrolledStm x xs u) f
        (λ t k n j. uptos_pause xs t (All-tail IsUnrolledStm x xs u) k n j) m i
