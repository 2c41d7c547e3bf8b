-- What holds between the states before and after each step holds between the state before a statement and those of its log.
use Rattle.std.proofs.Common.{◌≡◌, ℕ, zero, suc, Bool, true, false, List, [], ◌∷◌, ◌++◌, refl, sym, ◌∙◌, ap}
use Rattle.std.specs.Prelude.{⊤, ◌||◌, ◌&&◌, not, if◌then◌else◌, All}
use Rattle.std.proofs.lemmas.List.Elements.{All-nil, All-cons, All-head, All-tail, All-append}
use Rattle.vl_paths.specs.vl_design.specs.declared.design.Form.{Form}
use Rattle.vl_paths.specs.vl_design.specs.Syntax.{Target, Task, Stm, Nop, Then, If, Case, For, Repeat, Set, Later, Sys, Items, NoItems, Labelled, Default}
use Rattle.vl_paths.specs.vl_design.specs.Width.{Scope}
use Rattle.vl_paths.specs.vl_design.specs.Value.{words_of}
use Rattle.vl_paths.specs.vl_design.specs.State.{State, sample, counted}
use Rattle.vl_paths.specs.vl_design.specs.Tasks.{called}
use Rattle.vl_paths.specs.vl_design.specs.Exec.{exec, counted_if, some_match, is_true, goes_on, most_turns, holds, items_hold, asks}
use Rattle.vl_paths.specs.vl_design.specs.Reads.{target_writes, task_writes, stm_writes}
use Rattle.vl_paths.specs.vl_design.proofs.Leading.{AllIn, AllItems, all_in, Steps, exec_leads}
use Rattle.vl_paths.specs.vl_design.proofs.Kept.{words_other, writes_none, exec_keeps}
use Rattle.vl_paths.specs.vl_design.proofs.Returning.{exec_ticks}
use Rattle.vl_paths.specs.vl_design.proofs.Agreeing.{alive}
use Rattle.vl_runs.specs.Log.{Moment, choice_at, choice_if, turn_moments, moments, item_moments, default_moments}

-- what holds of all acts holds of each
pub all_middle : (P : Moment → Type 0) (xs ys : List Moment) (m : Moment) → All P (xs ++ (m ∷ ys)) → P m
all_middle P [] ys m h = All-head P m ys h
all_middle P (x ∷ xs) ys m h = all_middle P xs ys m (All-tail P x (xs ++ (m ∷ ys)) h)

module _ (scope : Scope) (R : State → State → Type 0) (T L : Target → Type 0) (K : Task → Type 0) (V : ℕ → Type 0) (r : Steps scope R T L K V) where
  -- the states right before and right after each of the acts
  abbrev pub Holds : State → List Moment → Type 0
  Holds s ms = All (λ m. R s m.before × R s m.after) ms

  none_holds : (s : State) → Holds s []
  none_holds s = All-nil (λ m. R s m.before × R s m.after)

  one_holds : (s : State) (m : Moment) → R s m.before → R s m.after → Holds s (m ∷ [])
  one_holds s m f g = All-cons (λ m. R s m.before × R s m.after) m [] (f, g) (none_holds s)

  both_hold : (s : State) (xs ys : List Moment) → Holds s xs → Holds s ys → Holds s (xs ++ ys)
  both_hold s xs ys f g = All-append (λ m. R s m.before × R s m.after) xs ys f g

  holds_from : (s t : State) → R s t → (ms : List Moment) → Holds t ms → Holds s ms
  holds_from s t e [] h = none_holds s
  holds_from s t e (m ∷ ms) h =
      let f = All-head (λ m. R t m.before × R t m.after) m ms h in
      All-cons (λ m. R s m.before × R s m.after) m ms (r.next _ _ _ e f.0, r.next _ _ _ e f.1) (holds_from s t e ms (All-tail (λ m. R t m.before × R t m.after) m ms h))

  by_holds : (b : Bool) (s : State) (xs ys : List Moment) → Holds s xs → Holds s ys → Holds s (if b then xs else ys)
  by_holds true s xs ys f g = f
  by_holds false s xs ys f g = g

  choice_holds : (b : Bool) (s : State) → R s (counted_if b s) × Holds s (choice_if b s)
  choice_holds b s = at (b && not s.finished)
    where
      at : (x : Bool) → R s (if x then counted s else s) × Holds s (if x then choice_at s ∷ [] else [])
      at true = (r.counts s, one_holds s (choice_at s) (r.same s) (r.counts s))
      at false = (r.same s, none_holds s)

  turns_hold : (n : ℕ) (test : State → Bool) (turn : State → State) (log : State → List Moment) → ((s : State) → R s (turn s)) → ((s : State) → Holds s (log s)) → (s : State) → Holds s (turn_moments n test turn log s)
  turns_hold zero test turn log f g s = none_holds s
  turns_hold (suc n) test turn log f g s =
      at (test s) (both_hold s (log s) (turn_moments n test turn log (turn s)) (g s) (holds_from s (turn s) (f s) _ (turns_hold n test turn log f g (turn s))))
    where
      at : (b : Bool) → Holds s (log s ++ turn_moments n test turn log (turn s)) → Holds s (elim b [ true ↦ log s ++ turn_moments n test turn log (turn s) | false ↦ [] ])
      at true h = h
      at false h = none_holds s

  unless_holds : (s : State) (ms : List Moment) (b : Bool) → s.finished ≡ b → (s.finished ≡ false → Holds s ms) → Holds s (if b then [] else ms)
  unless_holds s ms true e f = none_holds s
  unless_holds s ms false e f = f e

  leads : (a : Stm) → AllIn T L K V a → (s : State) → R s (exec scope a s)
  leads a h s = exec_leads scope R T L K V r a h s

  mutual
    pub log_holds : (a : Stm) → AllIn T L K V a → (s : State) → Holds s (moments scope a s)
    log_holds Nop h s = none_holds s
    log_holds (Then a b) h s =
        both_hold s (moments scope a s) (moments scope b (exec scope a s)) (log_holds a h.0 s) (holds_from s (exec scope a s) (leads a h.0 s) _ (log_holds b h.1 (exec scope a s)))
    log_holds (If t a b) h s =
        let held = asks t || (holds scope s a || holds scope s b) in
        let s' = counted_if held s in
        let c = choice_holds held s in
        both_hold s (choice_if held s) _ c.1
        (by_holds (is_true scope t s) s (moments scope a s') (moments scope b s') (holds_from s s' c.0 _ (log_holds a h.0 s')) (holds_from s s' c.0 _ (log_holds b h.1 s')))
    log_holds (Case e items) h s =
        let held = items_hold scope s items in
        let s' = counted_if held s in
        let c = choice_holds held s in
        both_hold s (choice_if held s) _ c.1 (holds_from s s' c.0 _ (items_log items h _ _ _ s' (default_log items h s')))
    log_holds (For k start test step a) h s =
        let turn : State → State = λ t. exec scope step (exec scope a t) in
        let log : State → List Moment = λ t. moments scope a t ++ moments scope step (exec scope a t) in
        let s' = exec scope start s in
        both_hold s (moments scope start s) (turn_moments most_turns (goes_on scope test) turn log s') (log_holds start h.1 s) (holds_from s s' (leads start h.1 s) _
        (turns_hold most_turns (goes_on scope test) turn log (λ t. r.next _ _ _ (leads a h.3 t) (leads step h.2 (exec scope a t)))
        (λ t. both_hold t (moments scope a t) (moments scope step (exec scope a t)) (log_holds a h.3 t) (holds_from t (exec scope a t) (leads a h.3 t) _ (log_holds step h.2 (exec scope a t)))) s'))
    log_holds (Repeat n a) h s = turns_hold n (λ t. true) (exec scope a) (moments scope a) (leads a h) (log_holds a h) s
    log_holds (Set t e) h s = none_holds s
    log_holds (Later t e) h s = none_holds s
    log_holds (Sys task) h s = unless_holds s _ s.finished refl (λ f. one_holds s _ (r.same s) (r.calls task s h f))

    items_log : (items : Items) → AllItems T L K V items → (v : ℕ) (c : Form) (others : List Moment) (s : State) → Holds s others → Holds s (item_moments scope v c items others s)
    items_log NoItems h v c others s f = f
    items_log (Labelled es a more) h v c others s f = by_holds (some_match scope (sample s) c v es) s (moments scope a s) _ (log_holds a h.0 s) (items_log more h.1 v c others s f)
    items_log (Default a more) h v c others s f = items_log more h.1 v c others s f

    default_log : (items : Items) → AllItems T L K V items → (s : State) → Holds s (default_moments scope items s)
    default_log NoItems h s = none_holds s
    default_log (Labelled es a others) h s = default_log others h.1 s
    default_log (Default a others) h s = log_holds a h.0 s

-- ---- an act begins no tick

module _ (scope : Scope) where
  abbrev pub SameTick : State → State → Type 0
  SameTick s t = s.ticks ≡ t.ticks

  tick_steps : Steps scope SameTick (λ t. ⊤) (λ t. ⊤) (λ k. ⊤) (λ v. ⊤)
  tick_steps = record {
    same = λ s. refl;
    next = λ a b c f g. f ∙ g;
    counts = λ s. refl;
    sets = λ t e s h f. refl;
    delays = λ t e s h f. refl;
    calls = λ task s h f. exec_ticks scope (Sys task) s ∙ ap (λ z. z.ticks) (alive s.finished s (called scope task s) f);
    restores = λ k before s h f. f;
  }

  pub log_ticks : (a : Stm) (s : State) → All (λ m. (s.ticks ≡ m.before.ticks) × (s.ticks ≡ m.after.ticks)) (moments scope a s)
  log_ticks a s = log_holds scope SameTick _ _ _ _ tick_steps a (all_in a) s

  -- ---- a signal that a statement doesn't write keeps its words at each of its acts

  module _ (p : ℕ → Bool) (k : ℕ) (marked : p k ≡ true) where
    abbrev pub SameWords : State → State → Type 0
    SameWords s t = words_of s.values k ≡ words_of t.values k

    other : (j : ℕ) → p j ≡ false → k ≡ j → ⊥
    other j h e = let z : p k ≡ p j = ap p e in cc (marked, h, z)

    word_steps : Steps scope SameWords (λ t. target_writes p t ≡ false) (λ t. target_writes p t ≡ false) (λ task. task_writes p task ≡ false) (λ j. p j ≡ false)
    word_steps = record {
      same = λ s. refl;
      next = λ a b c f g. f ∙ g;
      counts = λ s. refl;
      sets = λ t e s h f. exec_keeps p k marked scope (Set t e) h s ∙ ap (λ z. words_of z.values k) (alive s.finished s _ f);
      delays = λ t e s h f. refl;
      calls = λ task s h f. exec_keeps p k marked scope (Sys task) h s ∙ ap (λ z. words_of z.values k) (alive s.finished s (called scope task s) f);
      restores = λ j before s h f. f ∙ sym (words_other s.values j k _ (other j h));
    }

    pub log_keeps : (a : Stm) → stm_writes p a ≡ false → (s : State) → All (λ m. SameWords s m.before × SameWords s m.after) (moments scope a s)
    log_keeps a h s = log_holds scope SameWords _ _ _ _ word_steps a (writes_none p a h) s
