-- What a statement does once the run has finished, what a statement without calls keeps, and the branch of a case.
use Rattle.std.proofs.Common.{◌≡◌, ℕ, zero, suc, Bool, true, false, List, [], Option, Some, None, refl, ◌∙◌, ap}
use Rattle.std.specs.Prelude.{◌||◌, ◌&&◌, not, if◌then◌else◌, slice_set, slice_get}
use Rattle.std.proofs.lemmas.List.{set-get_or}
use Rattle.std.proofs.lemmas.Option.{unwrap_or-slice_get}
use Rattle.vl_base.specs.Files as file
use Rattle.vl_design.specs.declared.design.Form.{Form}
use Rattle.vl_design.specs.Syntax.{Exp, Task, Print, Finish, Save, Fopen, Fread, Fgetc, Feof, Fclose, ReadHex, Stm, Nop, Then, If, Case, For, Repeat, Set, Later, Sys, Items, NoItems, Labelled, Default, Row}
use Rattle.vl_design.specs.Width.{Scope, form}
use Rattle.vl_design.specs.Value.{value, words_of}
use Rattle.vl_design.specs.State.{State, sample, counted}
use Rattle.vl_design.specs.Tasks.{done, memory_read}
use Rattle.vl_design.specs.Exec.{exec, exec_items, exec_default, turns, some_turn, times, restored, counted_if, items_form, some_match, is_true, goes_on, most_turns, holds, items_hold, asks}
use Rattle.vl_design.specs.Acts.{default_body, chosen_body, branch_of}
use Rattle.vl_design.specs.Laws.{IsUnrolledStm, AreUnrolledItems, can_act, items_can_act}
use Rattle.vl_design.proofs.Unread.{or_false}
pub use Rattle.vl_base.proofs.Booleans.{or_both_false as or_none}
use Rattle.vl_base.proofs.Booleans.{and_of_false as none_and}

-- ---- once finished, nothing changes

pub words_kept : (values : List (List ℕ)) (k : ℕ) → slice_set values k (words_of values k) ≡ values
words_kept values k = ap (slice_set values k) (unwrap_or-slice_get values k []) ∙ set-get_or values k []

pub uncounted : (b : Bool) (s : State) → s.finished ≡ true → counted_if b s ≡ s
uncounted true s h = rw h refl
uncounted false s h = refl

same_by : (b : Bool) (x y s : State) → x ≡ s → y ≡ s → (if b then x else y) ≡ s
same_by true x y s e f = e
same_by false x y s e f = f

pub turns_stay : (n : ℕ) (test : State → Bool) (turn : State → State) (s : State) → turn s ≡ s → turns n test turn s ≡ s
turns_stay zero test turn s e = refl
turns_stay (suc n) test turn s e = at (test s) (ap (turns n test turn) e ∙ turns_stay n test turn s e)
  where
    at : (b : Bool) → turns n test turn (turn s) ≡ s → (elim b [ true ↦ turns n test turn (turn s) | false ↦ s ]) ≡ s
    at true h = h
    at false h = refl

pub times_stay : (n : ℕ) (turn : State → State) (s : State) → turn s ≡ s → times n turn s ≡ s
times_stay zero turn s e = refl
times_stay (suc n) turn s e = ap (times n turn) e ∙ times_stay n turn s e

module _ (scope : Scope) where
  mutual
    pub exec_over : (a : Stm) (s : State) → s.finished ≡ true → exec scope a s ≡ s
    exec_over Nop s h = refl
    exec_over (Then a b) s h = ap (exec scope b) (exec_over a s h) ∙ exec_over b s h
    exec_over (If t a b) s h =
        let e = uncounted (asks t || (holds scope s a || holds scope s b)) s h in
        same_by (is_true scope t s) _ _ s (ap (exec scope a) e ∙ exec_over a s h) (ap (exec scope b) e ∙ exec_over b s h)
    exec_over (Case e items) s h =
        let f = uncounted (items_hold scope s items) s h in
        let c = items_form scope.names (form scope.names e) items in
        ap (λ z. exec_items scope (value scope (sample s) e c) c items (exec_default scope items z) z) f ∙ items_over items _ c s _ h (default_over items s h)
    exec_over (For k start test step a) s h =
        let e = exec_over start s h in
        let f : exec scope step (exec scope a s) ≡ s = ap (exec scope step) (exec_over a s h) ∙ exec_over step s h in
        let g = ap (turns most_turns (goes_on scope test) (λ t. exec scope step (exec scope a t))) e ∙ turns_stay most_turns (goes_on scope test) (λ t. exec scope step (exec scope a t)) s f in
        ap (restored k s) g ∙ ap (λ vs. record s { values = vs }) (words_kept s.values k)
    exec_over (Repeat n a) s h = times_stay n (exec scope a) s (exec_over a s h)
    exec_over (Set t e) s h = rw h refl
    exec_over (Later t e) s h = rw h refl
    exec_over (Sys task) s h = rw h refl

    items_over : (items : Items) (v : ℕ) (c : Form) (s other : State) → s.finished ≡ true → other ≡ s → exec_items scope v c items other s ≡ s
    items_over NoItems v c s other h e = e
    items_over (Labelled es a others) v c s other h e = same_by (some_match scope (sample s) c v es) _ _ s (exec_over a s h) (items_over others v c s other h e)
    items_over (Default a others) v c s other h e = items_over others v c s other h e

    default_over : (items : Items) (s : State) → s.finished ≡ true → exec_default scope items s ≡ s
    default_over NoItems s h = refl
    default_over (Labelled es a others) s h = default_over others s h
    default_over (Default a others) s h = exec_over a s h

-- ---- a statement without calls holds none, whatever the state

some_turn_none : (n : ℕ) (test : State → Bool) (turn : State → State) (p : State → Bool) → ((s : State) → p s ≡ false) → (s : State) → some_turn n test turn p s ≡ false
some_turn_none zero test turn p f s = refl
some_turn_none (suc n) test turn p f s = at (test s) (f s) (some_turn_none n test turn p f (turn s))
  where
    at : (b : Bool) → p s ≡ false → some_turn n test turn p (turn s) ≡ false → (elim b [ true ↦ p s || some_turn n test turn p (turn s) | false ↦ false ]) ≡ false
    at true e g = rw e g
    at false e g = refl

module _ (scope : Scope) where
  mutual
    pub holds_none : (a : Stm) → can_act a ≡ false → (s : State) → holds scope s a ≡ false
    holds_none Nop h s = refl
    holds_none (Then a b) h s = let g = or_false (can_act a) (can_act b) h in or_none (holds scope s a) (holds scope s b) (holds_none a g.0 s) (holds_none b g.1 s)
    holds_none (If t a b) h s =
        let g = or_false (asks t) (can_act a || can_act b) h in
        let f = or_false (can_act a) (can_act b) g.1 in
        or_none (asks t) _ g.0 (or_none (holds scope s a) (holds scope s b) (holds_none a f.0 s) (holds_none b f.1 s))
    holds_none (Case e items) h s = items_hold_none items h s
    holds_none (For k start test step a) h s =
        let g = or_false (can_act start) (can_act step || can_act a) h in
        let f = or_false (can_act step) (can_act a) g.1 in
        some_turn_none most_turns (goes_on scope test) (exec scope step) (λ t. holds scope t a) (holds_none a f.1) (exec scope start s)
    holds_none (Repeat n a) h s = none_and _ (holds scope s a) (holds_none a h s)
    holds_none (Set t e) h s = refl
    holds_none (Later t e) h s = refl
    holds_none (Sys task) h s = let z : ⊥ = cc in absurd z

    pub items_hold_none : (items : Items) → items_can_act items ≡ false → (s : State) → items_hold scope s items ≡ false
    items_hold_none NoItems h s = refl
    items_hold_none (Labelled es a others) h s = let g = or_false (can_act a) (items_can_act others) h in or_none (holds scope s a) (items_hold scope s others) (holds_none a g.0 s) (items_hold_none others g.1 s)
    items_hold_none (Default a others) h s = let g = or_false (can_act a) (items_can_act others) h in or_none (holds scope s a) (items_hold scope s others) (holds_none a g.0 s) (items_hold_none others g.1 s)

  mutual
    -- without loops, what holds no call has none
    pub none_held : (a : Stm) → IsUnrolledStm a → (s : State) → holds scope s a ≡ false → can_act a ≡ false
    none_held Nop u s h = refl
    none_held (Then a b) u s h = let g = or_false (holds scope s a) (holds scope s b) h in or_none (can_act a) (can_act b) (none_held a u.0 s g.0) (none_held b u.1 s g.1)
    none_held (If t a b) u s h =
        let g = or_false (asks t) (holds scope s a || holds scope s b) h in
        let f = or_false (holds scope s a) (holds scope s b) g.1 in
        or_none (asks t) _ g.0 (or_none (can_act a) (can_act b) (none_held a u.0 s f.0) (none_held b u.1 s f.1))
    none_held (Case e items) u s h = items_none_held items u s h
    none_held (For k start test step a) u s h = absurd u
    none_held (Repeat n a) u s h = absurd u
    none_held (Set t e) u s h = refl
    none_held (Later t e) u s h = refl
    none_held (Sys task) u s h = h

    items_none_held : (items : Items) → AreUnrolledItems items → (s : State) → items_hold scope s items ≡ false → items_can_act items ≡ false
    items_none_held NoItems u s h = refl
    items_none_held (Labelled es a others) u s h = let g = or_false (holds scope s a) (items_hold scope s others) h in or_none (can_act a) (items_can_act others) (none_held a u.0 s g.0) (items_none_held others u.1 s g.1)
    items_none_held (Default a others) u s h = let g = or_false (holds scope s a) (items_hold scope s others) h in or_none (can_act a) (items_can_act others) (none_held a u.0 s g.0) (items_none_held others u.1 s g.1)

-- ---- a statement without calls neither counts nor finishes

pub record Rests (s t : State) : Type 0 where
  pub finished : t.finished ≡ s.finished
  pub count : t.count ≡ s.count

rests_same : (s : State) → Rests s s
rests_same s = record { finished = refl; count = refl }

rests_on : {a b c : State} → Rests a b → Rests b c → Rests a c
rests_on f g = record { finished = g.finished ∙ f.finished; count = g.count ∙ f.count }

rests_by : (b : Bool) (s x y : State) → Rests s x → Rests s y → Rests s (if b then x else y)
rests_by true s x y f g = f
rests_by false s x y f g = g

rests_turns : (n : ℕ) (test : State → Bool) (turn : State → State) → ((s : State) → Rests s (turn s)) → (s : State) → Rests s (turns n test turn s)
rests_turns zero test turn f s = rests_same s
rests_turns (suc n) test turn f s = at (test s) (rests_turns n test turn f (turn s))
  where
    at : (b : Bool) → Rests (turn s) (turns n test turn (turn s)) → Rests s (elim b [ true ↦ turns n test turn (turn s) | false ↦ s ])
    at true h = rests_on (f s) h
    at false h = rests_same s

rests_times : (n : ℕ) (turn : State → State) → ((s : State) → Rests s (turn s)) → (s : State) → Rests s (times n turn s)
rests_times zero turn f s = rests_same s
rests_times (suc n) turn f s = rests_on (f s) (rests_times n turn f (turn s))

not_counted : (b : Bool) (s : State) → b ≡ false → Rests s (counted_if b s)
not_counted true s h = let z : ⊥ = cc in absurd z
not_counted false s h = rests_same s

module _ (scope : Scope) where
  mutual
    pub exec_rests : (a : Stm) → can_act a ≡ false → (s : State) → Rests s (exec scope a s)
    exec_rests Nop h s = rests_same s
    exec_rests (Then a b) h s = let g = or_false (can_act a) (can_act b) h in rests_on (exec_rests a g.0 s) (exec_rests b g.1 (exec scope a s))
    exec_rests (If t a b) h s =
        let g = or_false (asks t) (can_act a || can_act b) h in
        let f = or_false (can_act a) (can_act b) g.1 in
        let s' = counted_if (asks t || (holds scope s a || holds scope s b)) s in
        let r : Rests s s' = not_counted _ s (holds_none scope (If t a b) h s) in
        rests_by (is_true scope t s) s _ _ (rests_on r (exec_rests a f.0 s')) (rests_on r (exec_rests b f.1 s'))
    exec_rests (Case e items) h s =
        let s' = counted_if (items_hold scope s items) s in
        let r : Rests s s' = not_counted _ s (items_hold_none scope items h s) in
        rests_on r (items_rest items h _ _ s' _ (default_rests items h s'))
    exec_rests (For k start test step a) h s =
        let g = or_false (can_act start) (can_act step || can_act a) h in
        let f = or_false (can_act step) (can_act a) g.1 in
        let body : (x : State) → Rests x (exec scope step (exec scope a x)) = λ x. rests_on (exec_rests a f.1 x) (exec_rests step f.0 (exec scope a x)) in
        let r = rests_on (exec_rests start g.0 s) (rests_turns most_turns (goes_on scope test) (λ x. exec scope step (exec scope a x)) body (exec scope start s)) in
        record { finished = r.finished; count = r.count }
    exec_rests (Repeat n a) h s = rests_times n (exec scope a) (exec_rests a h) s
    exec_rests (Set t e) h s = rests_by s.finished s s _ (rests_same s) (record { finished = refl; count = refl })
    exec_rests (Later t e) h s = rests_by s.finished s s _ (rests_same s) (record { finished = refl; count = refl })
    exec_rests (Sys task) h s = let z : ⊥ = cc in absurd z

    items_rest : (items : Items) → items_can_act items ≡ false → (v : ℕ) (c : Form) (s other : State) → Rests s other → Rests s (exec_items scope v c items other s)
    items_rest NoItems h v c s other r = r
    items_rest (Labelled es a others) h v c s other r = let g = or_false (can_act a) (items_can_act others) h in rests_by (some_match scope (sample s) c v es) s _ _ (exec_rests a g.0 s) (items_rest others g.1 v c s other r)
    items_rest (Default a others) h v c s other r = let g = or_false (can_act a) (items_can_act others) h in items_rest others g.1 v c s other r

    default_rests : (items : Items) → items_can_act items ≡ false → (s : State) → Rests s (exec_default scope items s)
    default_rests NoItems h s = rests_same s
    default_rests (Labelled es a others) h s = let g = or_false (can_act a) (items_can_act others) h in default_rests others g.1 s
    default_rests (Default a others) h s = let g = or_false (can_act a) (items_can_act others) h in exec_rests a g.0 s

-- ---- a call counts once

memory_counts : (m : ℕ) (r : Option Row) (text : Option (List ℕ)) (s : State) → (memory_read m r text s).count ≡ s.count
memory_counts m None text s = refl
memory_counts m (Some r) None s = refl
memory_counts m (Some r) (Some text) s = refl

pub done_counts : (scope : Scope) (task : Task) (s : State) → (done scope task s).count ≡ s.count
done_counts scope (Print pieces newline) s = refl
done_counts scope (Finish es) s = refl
done_counts scope (Save name) s = refl
done_counts scope (Fopen name) s = refl
done_counts scope (Fread j fd) s = refl
done_counts scope (Fgetc fd) s = refl
done_counts scope (Feof fd) s = refl
done_counts scope (Fclose fd) s = refl
done_counts scope (ReadHex name m) s = memory_counts m (slice_get scope.names.rows m) (file.contents scope.files name) s

-- ---- a case does what its branch does

module _ (scope : Scope) where
  default_done : (items : Items) (s : State) → exec_default scope items s ≡ exec scope (default_body items) s
  default_done NoItems s = refl
  default_done (Labelled es a others) s = default_done others s
  default_done (Default a others) s = refl

  either_done : (b : Bool) (a c : Stm) (s : State) → (if b then exec scope a s else exec scope c s) ≡ exec scope (if b then a else c) s
  either_done true a c s = refl
  either_done false a c s = refl

  chosen_done : (items : Items) (v : ℕ) (c : Form) (other : Stm) (s : State) → exec_items scope v c items (exec scope other s) s ≡ exec scope (chosen_body scope (sample s) v c items other) s
  chosen_done NoItems v c other s = refl
  chosen_done (Labelled es a others) v c other s =
      let m = some_match scope (sample s) c v es in
      ap (λ z. if m then exec scope a s else z) (chosen_done others v c other s) ∙ either_done m a _ s
  chosen_done (Default a others) v c other s = chosen_done others v c other s

  sample_counted : (b : Bool) (s : State) → sample (counted_if b s) ≡ sample s
  sample_counted b s = at (b && not s.finished)
    where
      at : (x : Bool) → sample (if x then counted s else s) ≡ sample s
      at true = refl
      at false = refl

  pub case_done : (e : Exp) (items : Items) (s : State) → exec scope (Case e items) s ≡ exec scope (branch_of scope (sample s) (Case e items)) (counted_if (items_hold scope s items) s)
  case_done e items s =
      let s' = counted_if (items_hold scope s items) s in
      let c = items_form scope.names (form scope.names e) items in
      let v = value scope (sample s) e c in
      ap (λ z. exec_items scope v c items z s') (default_done items s') ∙
      (chosen_done items v c (default_body items) s' ∙
      ap (λ z. exec scope (chosen_body scope z v c items (default_body items)) s') (sample_counted (items_hold scope s items) s))
