-- In each queue that a run comes to, values are as the design's signals have them.
use Rattle.std.proofs.Common.{◌≡◌, ◌+◌, Bool, true, false, List, [], ◌∷◌, Option, Some, None, subst}
use Rattle.std.specs.Prelude.{if◌then◌else◌}
use Rattle.vl_paths.specs.vl_base.specs.declared.files.File.{File}
use Rattle.vl_paths.specs.vl_design.specs.Syntax.{Stm, Proc, Flat}
use Rattle.vl_paths.specs.vl_design.specs.State.{State, all_updated}
use Rattle.vl_paths.specs.vl_design.specs.Exec.{exec}
use Rattle.vl_paths.specs.vl_design.specs.Functions.{scope_of}
use Rattle.vl_paths.specs.vl_design.specs.Queue.{Queue, Phase, Wave, Ended, Updated, first_pending, is_rise, is_fall, next_event, next_pending, next_phase}
use Rattle.vl_paths.specs.vl_design.specs.Snapshots.{Snapshot}
use Rattle.vl_paths.specs.vl_design.specs.Alone.{Origin, blocks, falls, first_queue, risen}
use Rattle.vl_paths.specs.vl_design.specs.Laws.{IsFine, StartsFine}
use Rattle.vl_paths.specs.vl_design.proofs.Running.{some_is}
use Rattle.vl_paths.specs.vl_design.proofs.Ranging.{exec_in_range, updates_in_range}
use Rattle.vl_paths.specs.vl_design.proofs.Shaping.{shape_on, exec_shape, all_shape}
use Rattle.vl_paths.specs.vl_design.proofs.Fine.{zeros_fine}
use Rattle.vl_runs.specs.Runs.{Comes, begins, goes, rises}

abbrev FineQueue : Flat → Queue → Type 0
FineQueue d q = IsFine d.rows q.state.values

pub updates_fine : (d : Flat) (s : State) → IsFine d.rows s.values → IsFine d.rows (all_updated d.rows s.values s.later)
updates_fine d s f = record { range = updates_in_range d.rows s.later s.values f.range; shape = shape_on (all_shape d.rows s.later s.values) f.shape }

pub first_fine : (o : Origin) (s : Option Snapshot) → StartsFine o.flat.rows s → FineQueue o.flat (first_queue o s)
first_fine o None h = zeros_fine o.flat.rows
first_fine o (Some s) h = h

risen_fine : (d : Flat) (q : Queue) → FineQueue d q → FineQueue d (risen d q)
risen_fine d q f = go q.state.finished
  where
    up : Queue
    up = record q {
      state = record (q.state) { ticks = q.state.ticks + 1; saves = [] };
      phase = Wave (blocks is_rise d.procs);
      ahead = falls (blocks is_fall d.procs);
    }

    go : (b : Bool) → FineQueue d (if b then q else up)
    go true = f
    go false = f

module _ (d : Flat) (files : List File) where
  pub exec_fine : (a : Stm) (s : State) → IsFine d.rows s.values → IsFine d.rows (exec (scope_of d files) a s).values
  exec_fine a s f = record { range = exec_in_range (scope_of d files) a s f.range; shape = shape_on (exec_shape (scope_of d files) a s) f.shape }

  phase_fine : (q r : Queue) (ph : Phase) (ws : List (List Proc)) → FineQueue d q → next_phase d files q ph ws ≡ Some r → FineQueue d r
  phase_fine q r (Wave ps) ws f h = let z : ⊥ = cc in absurd z
  phase_fine q r Ended ws f h = subst (FineQueue d) (some_is h) (updates_fine d q.state f)
  phase_fine q r Updated [] f h = let z : ⊥ = cc in absurd z
  phase_fine q r Updated (w ∷ ws) f h = subst (FineQueue d) (some_is h) f

  pending_fine : (q r : Queue) (o : Option Proc) → FineQueue d q → next_pending d files q o ≡ Some r → FineQueue d r
  pending_fine q r None f h = phase_fine q r q.phase q.ahead f h
  pending_fine q r (Some p) f h = subst (FineQueue d) (some_is h) (exec_fine p.body q.state f)

  event_fine : (q r : Queue) (ph : Phase) → FineQueue d q → next_event d files q ph ≡ Some r → FineQueue d r
  event_fine q r (Wave []) f h = subst (FineQueue d) (some_is h) f
  event_fine q r (Wave (p ∷ ps)) f h = subst (FineQueue d) (some_is h) (exec_fine p.body q.state f)
  event_fine q r Ended f h = pending_fine q r (first_pending d.procs q.pending) f h
  event_fine q r Updated f h = pending_fine q r (first_pending d.procs q.pending) f h

  next_fine : (q r : Queue) (b : Bool) → FineQueue d q → (if b then None else next_event d files q q.phase) ≡ Some r → FineQueue d r
  next_fine q r true f h = let z : ⊥ = cc in absurd z
  next_fine q r false f h = event_fine q r q.phase f h

pub comes_fine : (o : Origin) → StartsFine o.flat.rows o.resume → {q : Queue} → Comes o q → FineQueue o.flat q
comes_fine o h begins = first_fine o o.resume h
comes_fine o h (goes {q = x} {r = r} c e) = next_fine o.flat o.files x r x.state.finished (comes_fine o h c) e
comes_fine o h (rises {q = x} c e) = risen_fine o.flat x (comes_fine o h c)
