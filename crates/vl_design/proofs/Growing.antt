-- What was printed stays printed, and once a run has finished nothing changes.
use Rattle.std.proofs.Common.{◌≡◌, ℕ, suc, true, List, [], ◌++◌, Option, Some, None, refl, sym, ap, ◌∙◌, subst, append_assoc, append-nil}
use Rattle.std.specs.Prelude.{⊤, slice_get}
use Rattle.vl_base.specs.Files as file
use Rattle.vl_design.specs.Syntax.{Task, Print, Finish, Save, Fopen, Fread, Fgetc, Feof, Fclose, ReadHex, Stm, Row}
use Rattle.vl_design.specs.Width.{Scope}
use Rattle.vl_design.specs.State.{State}
use Rattle.vl_design.specs.Tasks.{called, memory_read}
use Rattle.vl_design.specs.Exec.{exec}
use Rattle.vl_design.specs.Queue.{Queue, next}
use Rattle.vl_design.specs.Alone.{Origin, Settles, rests, Boundary, ticked, risen}
use Rattle.vl_design.specs.Laws.{Grows}
use Rattle.vl_design.proofs.Leading.{Steps, exec_leads, all_in}

pub grows_same : (s t : State) → s.printed ≡ t.printed → Grows s t
grows_same s t e = record { more = []; grown = sym e ∙ sym (append-nil s.printed) }

pub grows_on : (a b c : State) → Grows a b → Grows b c → Grows a c
grows_on a b c f g = record { more = f.more ++ g.more; grown = g.grown ∙ (ap (λ x. x ++ g.more) f.grown ∙ append_assoc a.printed f.more g.more) }

memory_printed : (m : ℕ) (r : Option Row) (text : Option (List ℕ)) (s : State) → s.printed ≡ (memory_read m r text s).printed
memory_printed m None text s = refl
memory_printed m (Some r) None s = refl
memory_printed m (Some r) (Some text) s = refl

pub call_grows : (scope : Scope) (task : Task) (s : State) → Grows s (called scope task s)
call_grows scope (Print pieces newline) s = record { more = _; grown = refl }
call_grows scope (Finish es) s = grows_same s _ refl
call_grows scope (Save name) s = grows_same s _ refl
call_grows scope (Fopen name) s = grows_same s _ refl
call_grows scope (Fread j fd) s = grows_same s _ refl
call_grows scope (Fgetc fd) s = grows_same s _ refl
call_grows scope (Feof fd) s = grows_same s _ refl
call_grows scope (Fclose fd) s = grows_same s _ refl
call_grows scope (ReadHex name m) s = grows_same s _ (memory_printed m (slice_get scope.names.rows m) (file.contents scope.files name) s)

steps_grow : (scope : Scope) → Steps scope Grows (λ t. ⊤) (λ t. ⊤) (λ k. ⊤) (λ v. ⊤)
steps_grow scope = record {
  same = λ s. grows_same s s refl;
  next = grows_on;
  counts = λ s. grows_same s _ refl;
  sets = λ t e s h f. grows_same s _ refl;
  delays = λ t e s h f. grows_same s _ refl;
  calls = λ task s h f. call_grows scope task s;
  restores = λ k before s h f. grows_on before s _ f (grows_same s _ refl);
}

pub exec_grows : (scope : Scope) (a : Stm) (s : State) → Grows s (exec scope a s)
exec_grows scope a s = exec_leads scope Grows _ _ _ _ (steps_grow scope) a (all_in a) s

-- once a run has finished it stays as it is
pub finished_stays : (o : Origin) (k : ℕ) (q : Queue) → Boundary o k q → q.state.finished ≡ true → Boundary o (suc k) q
finished_stays o k q x h =
    let e : risen o.flat q ≡ q = rw h refl in
    let n : next o.flat o.files q ≡ None = rw h refl in
    let s : Settles o.flat o.files (risen o.flat q) q = subst (λ z. Settles o.flat o.files z q) (sym e) (rests n) in
    ticked x s
