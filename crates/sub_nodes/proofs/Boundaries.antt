-- The run of a design's table comes to each boundary of the run alone.
use Rattle.std.proofs.Common.{◌≡◌, ℕ, true, false, List, [], ◌∷◌, Option, Some, None, refl, ◌∙◌, ap, subst}
use Rattle.std.specs.Prelude.{slice_get, if◌then◌else◌}
use Rattle.vl_design.specs.vl_base.specs.declared.files.File.{File}
use Rattle.vl_design.specs.Syntax.{Proc, Flat}
use Rattle.vl_design.specs.State.{State}
use Rattle.vl_design.specs.Queue as queue
use Rattle.vl_design.specs.Queue.{Queue, Phase, Ended, Updated, first_pending, next, next_event, next_pending, next_phase}
use Rattle.vl_design.specs.Alone.{Origin, Settles, rests, goes, Boundary, begun, ticked}
use Rattle.vl_design.specs.Acts.{at_boundary, is_last}
use Rattle.vl_design.specs.Laws.{HasQuietNets, IsReached}
use Rattle.vl_design.proofs.Agreeing.{agrees}
use Rattle.sub_nodes.specs.Nodes.{Table}
use Rattle.sub_nodes.specs.Cycles.{Stage, rises}
use Rattle.sub_nodes.specs.Stands.{CanRun, Comes}
use Rattle.sub_nodes.proofs.Beginning.{stands_rise}
use Rattle.sub_nodes.proofs.Runs.{ComesTo, each_comes}

module _ (d : Flat) (files : List File) where
  none_pending : (q : Queue) (o : Option Proc) → next_pending d files q o ≡ None → next_phase d files q q.phase q.ahead ≡ None
  none_pending q None h = h
  none_pending q (Some p) h = let z : ⊥ = cc in absurd z

  over : (q : Queue) (phase : Phase) (ahead : List (List Proc)) → q.phase ≡ phase → q.ahead ≡ ahead → next_event d files q phase ≡ None → is_last phase ahead ≡ true
  over q (queue.Wave []) ahead e a h = let z : ⊥ = cc in absurd z
  over q (queue.Wave (p ∷ ps)) ahead e a h = let z : ⊥ = cc in absurd z
  over q Ended ahead e a h =
      let f = subst (λ w. next_phase d files q w q.ahead ≡ None) e (none_pending q (first_pending d.procs q.pending) h) in
      let z : ⊥ = cc in absurd z
  over q Updated [] e a h = refl
  over q Updated (w ∷ ws) e a h =
      let f = subst (λ v. next_phase d files q v q.ahead ≡ None) e (none_pending q (first_pending d.procs q.pending) h) in
      let g = subst (λ v. next_phase d files q Updated v ≡ None) a f in
      let z : ⊥ = cc in absurd z

  quiet_over : (q : Queue) → next d files q ≡ None → q.state.finished ≡ false → is_last q.phase q.ahead ≡ true
  quiet_over q h f = over q q.phase q.ahead refl refl (subst (λ b. (if b then None else next_event d files q q.phase) ≡ None) f h)

  settled_quiet : {q r : Queue} → Settles d files q r → next d files r ≡ None
  settled_quiet (rests e) = e
  settled_quiet (goes e s) = settled_quiet s

boundary_quiet : {o : Origin} {k : ℕ} {q : Queue} → Boundary o k q → next o.flat o.files q ≡ None
boundary_quiet {o} (begun e s) = settled_quiet o.flat o.files s
boundary_quiet {o} (ticked b s) = settled_quiet o.flat o.files s

-- the run of the table is at a boundary of the run alone
pub record IsThere (o : Origin) (T : Table) (nets : State → List (List ℕ)) (q : Queue) : Type 0 where
  pub stage : Stage
  pub comes : Comes o T nets q.state.count stage
  pub same : stage.state ≡ q.state
  pub idle : q.state.finished ≡ false → rises (slice_get T.nodes stage.node) ≡ true

pub each_boundary : (o : Origin) (T : Table) (nets : State → List (List ℕ)) (k : ℕ) (q : Queue) → CanRun o T nets → HasQuietNets o.flat → Boundary o k q → IsThere o T nets q
each_boundary o T nets k q r h b =
    let a : IsReached o q = agrees o r.unrolled h b in
    let c : ComesTo o T nets r q.state.count a.point = each_comes o T nets r a.after in
    record {
      stage = c.stage;
      comes = c.comes;
      same = c.stands.state ∙ a.same;
      idle = λ f. stands_rise o.flat T r.table c.stands ∙ (ap at_boundary (a.between f) ∙ quiet_over o.flat o.files q (boundary_quiet b) f);
    }
