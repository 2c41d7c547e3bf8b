-- A statement leaves pending updates only of signals that it writes.
use Rattle.std.proofs.Common.{◌≡◌, ℕ, Bool, false, List, [], ◌∷◌, ◌++◌, Option, Some, None}
use Rattle.std.specs.Prelude.{slice_get}
use Rattle.vl_paths.specs.vl_base.specs.Files as file
use Rattle.vl_paths.specs.vl_design.specs.Syntax.{Task, Print, Finish, Save, Fopen, Fread, Fgetc, Feof, Fclose, ReadHex, Stm, Row}
use Rattle.vl_paths.specs.vl_design.specs.Width.{Scope}
use Rattle.vl_paths.specs.vl_design.specs.State.{State, Update, sample}
use Rattle.vl_paths.specs.vl_design.specs.Targets.{spots, assignment}
use Rattle.vl_paths.specs.vl_design.specs.Tasks.{called, memory_read}
use Rattle.vl_paths.specs.vl_design.specs.Exec.{exec}
use Rattle.vl_paths.specs.vl_design.specs.Reads.{target_writes, task_writes, stm_writes}
use Rattle.vl_paths.specs.vl_design.proofs.Kept.{OfUpdates, of_updates, of_target, writes_none}
use Rattle.vl_paths.specs.vl_design.proofs.Leading.{Steps, exec_leads}

module _ (p : ℕ → Bool) where
  both : (xs ys : List Update) → OfUpdates p xs → OfUpdates p ys → OfUpdates p (xs ++ ys)
  both [] ys f g = g
  both (x ∷ xs) ys f g = (f.0, both xs ys f.1 g)

  abbrev Stays : State → State → Type 0
  Stays s t = OfUpdates p s.later → OfUpdates p t.later

  memory_stays : (m : ℕ) (r : Option Row) (text : Option (List ℕ)) (s : State) → Stays s (memory_read m r text s)
  memory_stays m None text s f = f
  memory_stays m (Some r) None s f = f
  memory_stays m (Some r) (Some text) s f = f

  call_stays : (scope : Scope) (task : Task) (s : State) → Stays s (called scope task s)
  call_stays scope (Print pieces newline) s f = f
  call_stays scope (Finish es) s f = f
  call_stays scope (Save name) s f = f
  call_stays scope (Fopen name) s f = f
  call_stays scope (Fread j fd) s f = f
  call_stays scope (Fgetc fd) s f = f
  call_stays scope (Feof fd) s f = f
  call_stays scope (Fclose fd) s f = f
  call_stays scope (ReadHex name m) s f = memory_stays m (slice_get scope.names.rows m) (file.contents scope.files name) s f

  steps_stay : (scope : Scope) → Steps scope Stays (λ t. target_writes p t ≡ false) (λ t. target_writes p t ≡ false) (λ task. task_writes p task ≡ false) (λ j. p j ≡ false)
  steps_stay scope = record {
    same = λ s f. f;
    next = λ a b c f g h. g (f h);
    counts = λ s f. f;
    sets = λ t e s h k f. f;
    delays = λ t e s h k f. both s.later (assignment scope (sample s) t e) f (of_updates p (spots scope (sample s) t) _ (of_target p scope (sample s) t h));
    calls = λ task s h k f. call_stays scope task s f;
    restores = λ j before s h f. f;
  }

  pub exec_stays : (scope : Scope) (a : Stm) → stm_writes p a ≡ false → (s : State) → OfUpdates p s.later → OfUpdates p (exec scope a s).later
  exec_stays scope a h s f = exec_leads scope Stays _ _ _ _ (steps_stay scope) a (writes_none p a h) s f
