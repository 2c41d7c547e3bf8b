-- An act begins a tick exactly where it leaves a boundary.
use Rattle.std.proofs.Common.{◌≡◌, ℕ, ◌+◌, Bool, true, false, List, [], ◌∷◌, Option, Some, None, refl, sym, ◌∙◌, ap}
use Rattle.std.specs.Prelude.{◌||◌, if◌then◌else◌, slice_get}
use Rattle.vl_paths.specs.vl_base.specs.declared.files.File.{File}
use Rattle.vl_paths.specs.vl_base.specs.Files as file
use Rattle.vl_paths.specs.vl_design.specs.Syntax.{Task, Print, Finish, Save, Fopen, Fread, Fgetc, Feof, Fclose, ReadHex, Row, Stm, Nop, Then, If, Case, For, Repeat, Set, Later, Sys, Proc, Flat}
use Rattle.vl_paths.specs.vl_design.specs.Width.{Scope}
use Rattle.vl_paths.specs.vl_design.specs.State.{State, sample}
use Rattle.vl_paths.specs.vl_design.specs.Tasks.{called, memory_read}
use Rattle.vl_paths.specs.vl_design.specs.Exec.{exec, is_true, holds, items_hold, asks}
use Rattle.vl_paths.specs.vl_design.specs.Functions.{scope_of}
use Rattle.vl_paths.specs.vl_design.specs.Queue.{Queue, Phase, Wave, Ended, Updated, is_rise, is_fall}
use Rattle.vl_paths.specs.vl_design.specs.Alone.{blocks, falls}
use Rattle.vl_paths.specs.vl_design.specs.Acts as act
use Rattle.vl_paths.specs.vl_design.specs.Acts.{Pause, Through, AtCall, AtChoice, branch_of, upto, uptos, Point, Between, Inside, state_at, queue_at, at_boundary, is_last, entered, entered_by, Reached, Completes, Calls, Chooses, with_block, by_pause, through_blocks, reach, Calms, calm, Did, Act, of_wave, updates}
use Rattle.vl_paths.specs.vl_design.proofs.Returning.{exec_ticks}
use Rattle.vl_paths.specs.vl_design.proofs.Agreeing.{alive}

memory_ticks : (m : ℕ) (r : Option Row) (text : Option (List ℕ)) (s : State) → s.ticks ≡ (memory_read m r text s).ticks
memory_ticks m None text s = refl
memory_ticks m (Some r) None s = refl
memory_ticks m (Some r) (Some text) s = refl

call_ticks : (scope : Scope) (task : Task) (s : State) → s.ticks ≡ (called scope task s).ticks
call_ticks scope (Print pieces newline) s = refl
call_ticks scope (Finish es) s = refl
call_ticks scope (Save name) s = refl
call_ticks scope (Fopen name) s = refl
call_ticks scope (Fread k fd) s = refl
call_ticks scope (Fgetc fd) s = refl
call_ticks scope (Feof fd) s = refl
call_ticks scope (Fclose fd) s = refl
call_ticks scope (ReadHex name m) s = memory_ticks m (slice_get scope.names.rows m) (file.contents scope.files name) s

module _ (scope : Scope) (n : ℕ) where
  abbrev pub PauseIn : Pause → Type 0
  PauseIn (Through s) = s.ticks ≡ n
  PauseIn (AtCall task s rest) = s.ticks ≡ n
  PauseIn (AtChoice s rest) = s.ticks ≡ n

  either_in : (b : Bool) (x y : Pause) → PauseIn x → PauseIn y → PauseIn (if b then x else y)
  either_in true x y f g = f
  either_in false x y f g = g

  passed : (x : Stm) (go : State → Pause) (s : State) → ((t : State) → t.ticks ≡ n → PauseIn (go t)) → s.ticks ≡ n → PauseIn (go (exec scope x s))
  passed x go s g e = g (exec scope x s) (sym (exec_ticks scope x s) ∙ e)

  upto_in : (x : Stm) (rest : List Stm) (go : State → Pause) (s : State) → ((t : State) → t.ticks ≡ n → PauseIn (go t)) → s.ticks ≡ n → PauseIn (upto scope x rest go s)
  upto_in Nop rest go s g e = g s e
  upto_in (Then a b) rest go s g e = upto_in a (b ∷ rest) (upto scope b rest go) s (λ t f. upto_in b rest go t g f) e
  upto_in (If t a b) rest go s g e =
      either_in (asks t || (holds scope s a || holds scope s b)) (AtChoice s ((if is_true scope t s then a else b) ∷ rest)) (go (exec scope (If t a b) s)) e (passed (If t a b) go s g e)
  upto_in (Case c items) rest go s g e =
      either_in (items_hold scope s items) (AtChoice s (branch_of scope (sample s) (Case c items) ∷ rest)) (go (exec scope (Case c items) s)) e (passed (Case c items) go s g e)
  upto_in (For k begin test step a) rest go s g e = passed (For k begin test step a) go s g e
  upto_in (Repeat m a) rest go s g e = passed (Repeat m a) go s g e
  upto_in (Set t v) rest go s g e = passed (Set t v) go s g e
  upto_in (Later t v) rest go s g e = passed (Later t v) go s g e
  upto_in (Sys task) rest go s g e = e

  pub uptos_in : (xs : List Stm) (s : State) → s.ticks ≡ n → PauseIn (uptos scope xs s)
  uptos_in [] s e = e
  uptos_in (x ∷ xs) s e = upto_in x xs (uptos scope xs) s (λ t f. uptos_in xs t f) e

module _ (d : Flat) (files : List File) (n : ℕ) where
  abbrev scope : Scope
  scope = scope_of d files

  abbrev ReachIn : Reached → Type 0
  ReachIn (Completes q) = q.state.ticks ≡ n
  ReachIn (Calls task q rest from committed) = q.state.ticks ≡ n
  ReachIn (Chooses q rest from committed) = q.state.ticks ≡ n

  pause_in : (q : Queue) (from committed : List (List ℕ)) (left : List Proc) (go : Queue → Reached) (x : Pause) → ((r : Queue) → r.state.ticks ≡ n → ReachIn (go r)) → PauseIn scope n x → ReachIn (by_pause d files q from committed left go x)
  pause_in q from committed left go (Through s) g e = g (with_block d files q from s) e
  pause_in q from committed left go (AtCall task s rest) g e = e
  pause_in q from committed left go (AtChoice s rest) g e = e

  blocks_in : (committed : List (List ℕ)) (left : List Proc) (q : Queue) → q.state.ticks ≡ n → ReachIn (through_blocks d files committed left q)
  blocks_in committed [] q e = e
  blocks_in committed (p ∷ ps) q e =
      pause_in q q.state.values committed ps (through_blocks d files committed ps) _ (λ r f. blocks_in committed ps r f) (uptos_in scope n (p.body ∷ []) q.state e)

  reach_in : (p : Point) (left : List Proc) → (state_at p).ticks ≡ n → ReachIn (reach d files p left)
  reach_in (Between q) left e = blocks_in q.state.values left q e
  reach_in (Inside q rest from committed) left e =
      pause_in q from committed left (through_blocks d files committed left) _ (λ r f. blocks_in committed left r f) (uptos_in scope n rest q.state e)

  calms_in : {q r : Queue} → Calms d files q r → q.state.ticks ≡ n → r.state.ticks ≡ n
  calms_in (calm e) f = f
  calms_in (act.goes {q = q} {p = p} e c) f = calms_in c (sym (exec_ticks scope p.body q.state) ∙ f)

  did_in : (m : Reached) (p : Point) → ReachIn m → Did d files m p → (state_at p).ticks ≡ n
  did_in (Completes q) p e x = ap (λ z. (state_at z).ticks) x.2 ∙ calms_in x.1 e
  did_in (Calls task q rest from committed) p e x = ap (λ z. (state_at z).ticks) x ∙ (sym (call_ticks scope task q.state) ∙ e)
  did_in (Chooses q rest from committed) p e x = ap (λ z. (state_at z).ticks) x ∙ e

  pub wave_in : (p r : Point) (left : List Proc) → (state_at (entered d files p)).ticks ≡ n → Did d files (reach d files (entered d files p) left) r → (state_at r).ticks ≡ n
  wave_in p r left e x = did_in _ r (reach_in (entered d files p) left e) x

module _ (d : Flat) (files : List File) where
  abbrev Ticks : Point → ℕ
  Ticks p = if at_boundary p then (state_at p).ticks + 1 else (state_at p).ticks

  entered_ticks : (q : Queue) (phase : Phase) (ahead : List (List Proc)) → q.state.finished ≡ false → (entered_by d files q phase ahead).state.ticks ≡ (if is_last phase ahead then q.state.ticks + 1 else q.state.ticks)
  entered_ticks q (Wave ps) ahead f = refl
  entered_ticks q Ended ahead f = refl
  entered_ticks q Updated [] f =
      let up : Queue = record q { state = record (q.state) { ticks = q.state.ticks + 1; saves = [] }; phase = Wave (blocks is_rise d.procs); ahead = falls (blocks is_fall d.procs) } in
      ap (λ z. z.state.ticks) (alive q.state.finished q up f)
  entered_ticks q Updated (w ∷ ws) f = refl

  point_ticks : (p : Point) → (state_at p).finished ≡ false → (state_at (entered d files p)).ticks ≡ Ticks p
  point_ticks (Between q) f = entered_ticks q q.phase q.ahead f
  point_ticks (Inside q rest from committed) f = refl

  pub act_ticks : {p r : Point} → (state_at p).finished ≡ false → Act d files p r → (state_at r).ticks ≡ (if at_boundary p then (state_at p).ticks + 1 else (state_at p).ticks)
  act_ticks f (of_wave {p = p} {p' = r} left e x) = wave_in d files (Ticks p) p r left (point_ticks p f) x
  act_ticks f (updates {q = q} e c) =
      let same : (if at_boundary (Between q) then q.state.ticks + 1 else q.state.ticks) ≡ q.state.ticks = ap (λ x. if is_last x q.ahead then q.state.ticks + 1 else q.state.ticks) e in
      calms_in d files q.state.ticks c refl ∙ sym same
