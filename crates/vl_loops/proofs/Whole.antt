-- Executing a statement with its loops unrolled leads to the very same state.
use Rattle.std.proofs.Common.{◌≡◌, ℕ, zero, suc, Bool, true, false, List, [], ◌∷◌, length, refl, sym, ap, ◌∙◌, arith}
use Rattle.std.specs.Prelude.{◌||◌}
use Rattle.vl_design.specs.Syntax.{Target, Whole, WordAt, PickAt, SliceAt, Several, Targets, NoTargets, MoreTargets, Task, Print, Finish, Save, Fopen, Fread, Fgetc, Feof, Fclose, ReadHex, Stm, Nop, Then, If, Case, For, Repeat, Set, Later, Sys, Items, NoItems, Labelled, Default, Fun, Row}
use Rattle.vl_design.specs.Width.{Scope}
use Rattle.vl_design.specs.Value.{words_of}
use Rattle.vl_design.specs.State.{State}
use Rattle.vl_design.specs.Exec.{exec, goes_on, most_turns}
use Rattle.vl_design.specs.Reads.{target_writes, targets_write, task_writes, stm_writes, items_write}
use Rattle.vl_design.specs.Sound.{IsSoundStm}
use Rattle.vl_design.proofs.Kept.{exec_keeps}
use Rattle.vl_loops.specs.Unroll.{is_loop, put_target, put_targets, put_task, unrolled, unrolled_items, in_turns, so_many}
use Rattle.vl_loops.specs.Fits.{HasLoops, HaveLoops, Holds}
use Rattle.vl_loops.proofs.Funs.{with_funs, Alike}
use Rattle.vl_loops.proofs.Unrolling.{Good, whole_good}
use Rattle.vl_base.proofs.Booleans.{or_both_false as none_or}

module _ (rows : List Row) (at : List (List ℕ)) (p : ℕ → Bool) where
  mutual
    target_put_writes : (t : Target) → target_writes p (put_target rows at t) ≡ target_writes p t
    target_put_writes (Whole j) = refl
    target_put_writes (WordAt m a) = refl
    target_put_writes (PickAt b i from w) = target_put_writes b
    target_put_writes (SliceAt b low w) = target_put_writes b
    target_put_writes (Several ts) = targets_put_write ts

    targets_put_write : (ts : Targets) → targets_write p (put_targets rows at ts) ≡ targets_write p ts
    targets_put_write NoTargets = refl
    targets_put_write (MoreTargets t ts) = rw (target_put_writes t, targets_put_write ts) refl

  task_put_writes : (task : Task) → task_writes p (put_task rows at task) ≡ task_writes p task
  task_put_writes (Print pieces newline) = refl
  task_put_writes (Finish es) = refl
  task_put_writes (Save name) = refl
  task_put_writes (Fopen name) = refl
  task_put_writes (Fread j fd) = refl
  task_put_writes (Fgetc fd) = refl
  task_put_writes (Feof fd) = refl
  task_put_writes (Fclose fd) = refl
  task_put_writes (ReadHex name m) = refl

turns_write : {S : Type 0} (p : ℕ → Bool) (n : ℕ) (test : S → Bool) (step : S → S) (f : S → Stm) → ((x : S) → stm_writes p (f x) ≡ false) → (x : S) → stm_writes p (in_turns n test step f x) ≡ false
turns_write p zero test step f h x = refl
turns_write p (suc n) test step f h x = at (test x) (turns_write p n test step f h (step x))
  where
    at : (b : Bool) → stm_writes p (in_turns n test step f (step x)) ≡ false → stm_writes p (elim b [ true ↦ Then (f x) (in_turns n test step f (step x)) | false ↦ Nop ]) ≡ false
    at true k = none_or _ _ (h x) k
    at false k = refl

many_write : (p : ℕ → Bool) (n : ℕ) (a : Stm) → stm_writes p a ≡ false → stm_writes p (so_many n a) ≡ false
many_write p zero a h = refl
many_write p (suc n) a h = none_or _ _ h (many_write p n a h)

module _ (scope : Scope) where
  mutual
    -- no loop variable is left
    pub writes_no_loop : (a : Stm) → HasLoops scope.names.rows a → (e : State) → stm_writes (is_loop scope.names.rows) (unrolled scope a e) ≡ false
    writes_no_loop Nop l e = refl
    writes_no_loop (Then a b) l e = none_or _ _ (writes_no_loop a l.0 e) (writes_no_loop b l.1 e)
    writes_no_loop (If u a b) l e = none_or _ _ (writes_no_loop a l.0 e) (writes_no_loop b l.1 e)
    writes_no_loop (Case u items) l e = items_no_loop items l e
    writes_no_loop (For j start test step a) l e = turns_write (is_loop scope.names.rows) most_turns (goes_on scope test) (exec scope step) (unrolled scope a) (writes_no_loop a l.4) (exec scope start e)
    writes_no_loop (Repeat n a) l e = many_write (is_loop scope.names.rows) n (unrolled scope a e) (writes_no_loop a l e)
    writes_no_loop (Set u x) l e = target_put_writes scope.names.rows e.values (is_loop scope.names.rows) u ∙ l
    writes_no_loop (Later u x) l e = target_put_writes scope.names.rows e.values (is_loop scope.names.rows) u ∙ l
    writes_no_loop (Sys task) l e = task_put_writes scope.names.rows e.values (is_loop scope.names.rows) task ∙ l

    items_no_loop : (items : Items) → HaveLoops scope.names.rows items → (e : State) → items_write (is_loop scope.names.rows) (unrolled_items scope items e) ≡ false
    items_no_loop NoItems l e = refl
    items_no_loop (Labelled es a others) l e = none_or _ _ (writes_no_loop a l.0 e) (items_no_loop others l.1 e)
    items_no_loop (Default a others) l e = none_or _ _ (writes_no_loop a l.0 e) (items_no_loop others l.1 e)

-- ---- equal states

values_equal : (xs ys : List (List ℕ)) → length xs ≡ length ys → ((j : ℕ) → words_of xs j ≡ words_of ys j) → xs ≡ ys
values_equal [] [] e h = refl
values_equal [] (y ∷ ys) e h = absurd (omega (arith, e))
values_equal (x ∷ xs) [] e h = absurd (omega (arith, e))
values_equal (x ∷ xs) (y ∷ ys) e h =
    let f : length xs ≡ length ys = omega (arith, e) in
    let a : x ≡ y = h 0 in
    rw (a, values_equal xs ys f (λ j. h (suc j))) refl

states_equal : (s t : State) → s.values ≡ t.values → record s { values = [] } ≡ record t { values = [] } → s ≡ t
states_equal s t e h = ap (λ vs. record s { values = vs }) e ∙ ap (λ (z : State). record z { values = t.values }) h

-- the same state, whatever the state before in which the loop variables are as in e
module _ (scope : Scope) (funs : List Fun) (call : ℕ → List ℕ → ℕ) (al : Alike scope funs call) where
  pub exec_same : (a : Stm) → IsSoundStm scope.names a → HasLoops scope.names.rows a → (e s : State) → Holds scope.names.rows e s →
      exec (with_funs scope funs call) (unrolled scope a e) s ≡ exec scope a s
  exec_same a k l e s h =
      let next = with_funs scope funs call in
      let t = exec next (unrolled scope a e) s in
      let r : Good scope funs call al e (exec scope a s) t = whole_good scope funs call al a k l e s s (record { same = record { others = λ j b. refl; size = refl; all_else = refl }; holds = h }) in
      let kept = λ (j : ℕ) (m : is_loop scope.names.rows j ≡ true). exec_keeps (is_loop scope.names.rows) j m next (unrolled scope a e) (writes_no_loop scope a l e) s in
      sym (states_equal (exec scope a s) t (values_equal _ _ r.same.size (λ j. at j (is_loop scope.names.rows j) refl
      (λ m. r.holds.loops j m ∙ (sym (h.loops j m) ∙ kept j m)) (r.same.others j))) r.same.all_else)
    where
      at : (j : ℕ) (b : Bool) → is_loop scope.names.rows j ≡ b → {x y : List ℕ} → (is_loop scope.names.rows j ≡ true → x ≡ y) → (is_loop scope.names.rows j ≡ false → x ≡ y) → x ≡ y
      at j true m f g = f m
      at j false m f g = g m

  -- and the loop variables are as in e again
  pub exec_still : (a : Stm) → IsSoundStm scope.names a → HasLoops scope.names.rows a → (e s : State) → Holds scope.names.rows e s → Holds scope.names.rows e (exec scope a s)
  exec_still a k l e s h = (whole_good scope funs call al a k l e s s (record { same = record { others = λ j b. refl; size = refl; all_else = refl }; holds = h })).holds
