-- A run finishes only by a call of `$finish`.
use Rattle.std.proofs.Common.{◌≡◌, ℕ, suc, true, false, List, Option, Some, None, refl, sym, ◌∙◌, ap, subst}
use Rattle.std.specs.Prelude.{slice_get}
use Rattle.vl_paths.specs.vl_base.specs.Files as file
use Rattle.vl_paths.specs.vl_design.specs.Syntax.{Exps, Task, Print, Finish, Save, Fopen, Fread, Fgetc, Feof, Fclose, ReadHex, Row, Proc}
use Rattle.vl_paths.specs.vl_design.specs.Width.{Scope}
use Rattle.vl_paths.specs.vl_design.specs.State.{State}
use Rattle.vl_paths.specs.vl_design.specs.Tasks.{called, memory_read}
use Rattle.vl_paths.specs.vl_design.specs.Functions.{scope_of}
use Rattle.vl_paths.specs.vl_design.specs.Queue.{Wave}
use Rattle.vl_paths.specs.vl_design.specs.Alone.{Origin}
use Rattle.vl_paths.specs.vl_design.specs.Acts as act
use Rattle.vl_paths.specs.vl_design.specs.Acts.{Point, Between, Inside, state_at, queue_at, entered, Reached, Completes, Calls, Chooses, reach, Did, of_wave, updates, After, acts, Before}
use Rattle.vl_paths.specs.vl_design.specs.Laws.{IsUnrolled, HasQuietNets}
use Rattle.vl_runs.proofs.Logic.{never}
use Rattle.vl_runs.proofs.Standing.{between, before_a_call, choice_running}

memory_goes_on : (m : ℕ) (r : Option Row) (text : Option (List ℕ)) (s : State) → (memory_read m r text s).finished ≡ s.finished
memory_goes_on m None text s = refl
memory_goes_on m (Some r) None s = refl
memory_goes_on m (Some r) (Some text) s = refl

module _ (scope : Scope) where
  -- of the calls only `$finish` finishes the run
  finishes : (task : Task) (s : State) → s.finished ≡ false → (called scope task s).finished ≡ true → (es : Exps) × (task ≡ Finish es)
  finishes (Print pieces newline) s f h = never h f
  finishes (Finish es) s f h = (es, refl)
  finishes (Save name) s f h = never h f
  finishes (Fopen name) s f h = never h f
  finishes (Fread k fd) s f h = never h f
  finishes (Fgetc fd) s f h = never h f
  finishes (Feof fd) s f h = never h f
  finishes (Fclose fd) s f h = never h f
  finishes (ReadHex name m) s f h = never h (memory_goes_on m (slice_get scope.names.rows m) (file.contents scope.files name) s ∙ f)

module _ (o : Origin) (u : IsUnrolled o.flat) (quiet : HasQuietNets o.flat) where
  abbrev Finished : ℕ → Type 0
  Finished c = (es : Exps) × (b : Point) × Before o c (Finish es) b

  wave_finishes : {c : ℕ} (p r : Point) (left : List Proc) (m : Reached) → After o c p → After o (suc c) r → (state_at p).finished ≡ false → (queue_at (entered o.flat o.files p)).phase ≡ Wave left
      → reach o.flat o.files (entered o.flat o.files p) left ≡ m → Did o.flat o.files m r → (state_at r).finished ≡ true → Finished (suc c)
  wave_finishes p r left (Completes q) a b f e h d g =
      let n = between o u quiet d.0 (subst (After o _) d.2 b) in
      never (ap (λ z. (state_at z).finished) (sym d.2) ∙ g) n.1
  wave_finishes {c} p r left (Calls task q rest from committed) a b f e h d g =
      let before : Before o (suc c) task (Inside q rest from committed) = act.before task q rest from committed a (record { left = left; alive = f; in_wave = e; next = h }) in
      let at = before_a_call o u quiet q rest from committed before in
      let x = finishes (scope_of o.flat o.files) task q.state at.running (ap (λ z. (state_at z).finished) (sym d) ∙ g) in
      (x.0, Inside q rest from committed, subst (λ t. Before o (suc c) t (Inside q rest from committed)) x.1 before)
  wave_finishes p r left (Chooses q rest from committed) a b f e h d g =
      never (ap (λ z. (state_at z).finished) (sym d) ∙ g) (choice_running o u quiet p left q rest from committed a f e h)

  pub by_finish : {c : ℕ} {p : Point} → After o (suc c) p → (state_at p).finished ≡ true → (es : Exps) × (b : Point) × Before o (suc c) (Finish es) b
  by_finish {c} {p} (acts {p = x} a f (of_wave left e d)) h = wave_finishes x p left _ a (acts a f (of_wave left e d)) f e refl d h
  by_finish (acts a f (updates {q = q} {r = r} e s)) h = let n = between o u quiet r (acts a f (updates e s)) in never h n.1
