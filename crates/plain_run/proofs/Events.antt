-- The events of the queue, one by one.
use Rattle.std.proofs.Common.{◌≡◌, Bool, true, false, List, [], ◌∷◌, Option, Some, None, refl, sym, ap, ◌∙◌}
use Rattle.std.specs.Prelude.{if◌then◌else◌}
use Rattle.vl_eval.specs.vl_base.specs.declared.files.File.{File}
use Rattle.vl_eval.specs.vl_design.specs.Syntax.{Proc, Flat}
use Rattle.vl_eval.specs.vl_design.specs.State.{State}
use Rattle.vl_eval.specs.vl_design.specs.Exec.{exec}
use Rattle.vl_eval.specs.vl_design.specs.Functions.{scope_of}
use Rattle.vl_eval.specs.vl_design.specs.Queue.{Queue, Phase, Wave, Ended, Updated, next, next_event, next_pending, next_phase, first_pending, executed, wave_ended, updates_done}
use Rattle.vl_eval.specs.vl_design.specs.Alone.{Settles}
use Rattle.vl_eval.specs.vl_design.specs.Acts.{Calms}
use Rattle.vl_eval.specs.vl_design.proofs.Resting.{exec_over}
use Rattle.vl_runs.specs.Runs.{Comes}
use Rattle.vl_runs.proofs.Calming.{IsBehind, next_behind}
use Rattle.plain_run.specs.Runs.{over, Precedes, IsQuietAt}

module _ (d : Flat) (files : List File) where
  event : (q : Queue) (at : Phase) → q.state.finished ≡ false → q.phase ≡ at → next d files q ≡ next_event d files q at
  event q at f e = ap {A = Bool} {B = Option Queue} (λ b. if b then None else next_event d files q q.phase) f ∙ ap {A = Phase} {B = Option Queue} (next_event d files q) e

  pub next-over : (q : Queue) → q.state.finished ≡ true → next d files q ≡ None
  next-over q f = ap {A = Bool} {B = Option Queue} (λ b. if b then None else next_event d files q q.phase) f

  pub next-block : (q : Queue) (p : Proc) (ps : List Proc) → q.state.finished ≡ false → q.phase ≡ Wave (p ∷ ps) → next d files q ≡ Some (executed d files q p ps)
  next-block q p ps f e = event q (Wave (p ∷ ps)) f e

  pub next-end : (q : Queue) → q.state.finished ≡ false → q.phase ≡ Wave [] → next d files q ≡ Some (wave_ended q)
  next-end q f e = event q (Wave []) f e

  -- ---- where no process is pending

  quiet : (q : Queue) (at : Phase) (waves : List (List Proc)) → q.state.finished ≡ false → IsBehind at → IsQuietAt d at waves q → next d files q ≡ next_phase d files q at waves
  quiet q at waves f b h =
      behind at b h.place.phase
      ∙ ap {A = Option Proc} {B = Option Queue} (next_pending d files q) h.none
      ∙ ap {A = Phase} {B = Option Queue} (λ x. next_phase d files q x q.ahead) h.place.phase
      ∙ ap {A = List (List Proc)} {B = Option Queue} (λ x. next_phase d files q at x) h.place.ahead
    where
      behind : (at : Phase) → IsBehind at → q.phase ≡ at → next d files q ≡ next_pending d files q (first_pending d.procs q.pending)
      behind (Wave ps) b e = absurd b
      behind Ended b e = event q Ended f e
      behind Updated b e = event q Updated f e

  pub next-update : (q : Queue) (waves : List (List Proc)) → q.state.finished ≡ false → IsQuietAt d Ended waves q → next d files q ≡ Some (updates_done d files q)
  next-update q waves f h = quiet q Ended waves f tt h

  pub next-wave : (q : Queue) (w : List Proc) (waves : List (List Proc)) → q.state.finished ≡ false → IsQuietAt d Updated (w ∷ waves) q → next d files q ≡ Some (record q { phase = Wave w; ahead = waves })
  next-wave q w waves f h = quiet q Updated (w ∷ waves) f tt h

  pub next-none : (q : Queue) → q.state.finished ≡ false → IsQuietAt d Updated [] q → next d files q ≡ None
  next-none q f h = quiet q Updated [] f tt h

  -- ---- evaluations

  calms-alive : {q r : Queue} → Calms d files q r → r.state.finished ≡ false → q.state.finished ≡ false
  calms-alive (Calms.calm e) f = f
  calms-alive {q} (Calms.goes {p = p} e s) f = go q.state.finished refl (calms-alive s f)
    where
      go : (b : Bool) → q.state.finished ≡ b → (exec (scope_of d files) p.body q.state).finished ≡ false → q.state.finished ≡ false
      go true e g = sym (ap {A = State} {B = Bool} (λ s. s.finished) (exec_over (scope_of d files) p.body q.state e)) ∙ g
      go false e g = e

  pub calms-come : {q r : Queue} → Calms d files q r → r.state.finished ≡ false → IsBehind q.phase → Comes (over d files 0) q → Comes (over d files 0) r
  calms-come (Calms.calm e) f b c = c
  calms-come {q} (Calms.goes {p = p} e s) f b c =
      let alive : q.state.finished ≡ false = calms-alive (Calms.goes e s) f in
      calms-come s f b (Comes.goes c (next_behind d files q alive b (Some p) e))

  pub calms-precede : {q r : Queue} → Calms d files q r → r.state.finished ≡ false → IsBehind q.phase → Precedes d files q r
  calms-precede (Calms.calm e) f b = λ x s. s
  calms-precede {q} (Calms.goes {p = p} e s) f b = λ x t.
      let alive : q.state.finished ≡ false = calms-alive (Calms.goes e s) f in
      Settles.goes (next_behind d files q alive b (Some p) e) (calms-precede s f b x t)
