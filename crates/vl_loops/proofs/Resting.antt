-- The pending updates of a run write no loop variable.
use Rattle.std.proofs.Common.{◌≡◌, ℕ, Bool, true, false, List, [], ◌∷◌, ◌++◌, Option, Some, None, refl, sym}
use Rattle.std.specs.Prelude.{slice_get}
use Rattle.vl_base.specs.Files as file
use Rattle.vl_design.specs.Syntax.{Task, Print, Finish, Save, Fopen, Fread, Fgetc, Feof, Fclose, ReadHex, Stm, Row}
use Rattle.vl_design.specs.Width.{Scope}
use Rattle.vl_design.specs.Value.{words_of}
use Rattle.vl_design.specs.State.{State, Update, sample, all_updated}
use Rattle.vl_design.specs.Targets.{spots}
use Rattle.vl_design.specs.Tasks.{called, memory_read}
use Rattle.vl_design.specs.Exec.{exec}
use Rattle.vl_design.specs.Reads.{target_writes, task_writes, stm_writes}
use Rattle.vl_design.proofs.Kept.{OfUpdates, of_updates, of_target, writes_none, updates_keep}
use Rattle.vl_design.proofs.Leading.{Steps, exec_leads}

module _ (p : ℕ → Bool) where
  both_updates : (xs ys : List Update) → OfUpdates p xs → OfUpdates p ys → OfUpdates p (xs ++ ys)
  both_updates [] ys f g = g
  both_updates (x ∷ xs) ys f g = (f.0, both_updates xs ys f.1 g)

  call_later : (scope : Scope) (task : Task) (s : State) → (called scope task s).later ≡ s.later
  call_later scope (Print pieces newline) s = refl
  call_later scope (Finish es) s = refl
  call_later scope (Save name) s = refl
  call_later scope (Fopen name) s = refl
  call_later scope (Fread j fd) s = refl
  call_later scope (Fgetc fd) s = refl
  call_later scope (Feof fd) s = refl
  call_later scope (Fclose fd) s = refl
  call_later scope (ReadHex name m) s = at (slice_get scope.names.rows m) (file.contents scope.files name)
    where
      at : (r : Option Row) (text : Option (List ℕ)) → (memory_read m r text s).later ≡ s.later
      at None text = refl
      at (Some r) None = refl
      at (Some r) (Some text) = refl

  steps_fine : (scope : Scope) → Steps scope (λ s t. OfUpdates p s.later → OfUpdates p t.later) (λ t. target_writes p t ≡ false) (λ t. target_writes p t ≡ false) (λ task. task_writes p task ≡ false) (λ j. p j ≡ false)
  steps_fine scope = record {
    same = λ s h. h;
    next = λ a b c f g h. g (f h);
    counts = λ s h. h;
    sets = λ t e s w f h. h;
    delays = λ t e s w f h. both_updates s.later _ h (of_updates p (spots scope (sample s) t) _ (of_target p scope (sample s) t w));
    calls = λ task s k f h. rw (call_later scope task s) h;
    restores = λ j before s k f h. f h;
  }

  -- a statement adds no update of such a signal
  pub exec_fine : (scope : Scope) (a : Stm) → stm_writes p a ≡ false → (s : State) → OfUpdates p s.later → OfUpdates p (exec scope a s).later
  exec_fine scope a h s f = exec_leads scope _ _ _ _ _ (steps_fine scope) a (writes_none p a h) s f

  -- updates of other signals keep a signal's words
  pub fine_keeps : (k : ℕ) → p k ≡ true → (rows : List Row) (us : List Update) → OfUpdates p us → (values : List (List ℕ)) → words_of (all_updated rows values us) k ≡ words_of values k
  fine_keeps k m rows us h values = sym (updates_keep p k m rows us h values)
