-- What time zero comes to in the run of a design's table.
use Rattle.std.proofs.Common.{◌≡◌, ℕ, Bool, true, false, List, [], ◌∷◌, refl, sym, ap, ◌∙◌, subst}
use Rattle.std.specs.Prelude.{if◌then◌else◌}
use Rattle.vl_design.specs.vl_base.specs.declared.files.File.{File}
use Rattle.vl_design.specs.Acts.{at_boundary, committed_at, is_last}
use Rattle.vl_design.specs.Alone.{Origin, Plan, blocks}
use Rattle.vl_design.specs.Functions.{fresh, zeros}
use Rattle.vl_design.specs.Laws.{IsReached, IsTable, IsUnrolled}
use Rattle.vl_design.specs.Queue.{Phase, Updated, is_init}
use Rattle.vl_design.specs.State.{State}
use Rattle.vl_design.specs.Syntax.{Proc, Flat}
use Rattle.vl_design.specs.Width.{Scope, names_of}
use Rattle.vl_design.proofs.Agreeing.{agrees}
use Rattle.vl_design.proofs.Opening.{boundary_open}
use Rattle.vl_design.proofs.Returning.{exec_ticks}
use Rattle.vl_run.specs.Machines.{IsMachine}
use Rattle.sub_runs.specs.vl_runs.specs.Checked.{IsChecked, IsOrder}
use Rattle.sub_runs.specs.vl_runs.proofs.Onward.{checked_quiet}
use Rattle.plain_run.specs.Runs.{over}
use Rattle.sub_runs.specs.sub_nodes.specs.Code.{table_of}
use Rattle.sub_runs.specs.sub_nodes.specs.Cycles.{execs}
use Rattle.sub_runs.specs.sub_nodes.specs.Implements.{bodies}
use Rattle.sub_runs.specs.sub_nodes.specs.Stands.{CanRun, Comes}
use Rattle.sub_runs.specs.sub_nodes.proofs.Beginning.{stands_rise}
use Rattle.sub_runs.specs.sub_nodes.proofs.Runs.{ComesTo, each_comes}
use Rattle.sub_runs.specs.Nets.{nets_of}
use Rattle.ten_zero.specs.declared.early.Early.{Early}
use Rattle.ten_zero.specs.Early.{blocks_done, from_zero, state_in, wave_done, zero_done, IsAtFirst, ComesBehind, IsBehindZero}
use Rattle.ten_zero.proofs.Queues.{IsFirst, first}

last-is : (phase : Phase) (ahead : List (List Proc)) → phase ≡ Updated → ahead ≡ [] → is_last phase ahead ≡ true
last-is phase ahead e h = rw (e, h) refl

execs-ticks : (scope : Scope) (ps : List Proc) (s : State) → s.ticks ≡ (execs scope (bodies ps) s).ticks
execs-ticks scope [] s = refl
execs-ticks scope (p ∷ ps) s = exec_ticks scope p.body s ∙ execs-ticks scope ps _

module _ (d : Flat) (files : List File) (order : List ℕ) where
  abbrev s : State
  s = blocks_done d files (fresh (zeros d.rows))

  zero-is : (f : Bool) → s.finished ≡ f → zero_done d files order ≡ (if f then s else wave_done d files order s)
  zero-is f e = ap (λ (b : Bool). if b then s else wave_done d files order s) e

  -- the run goes on behind the blocks, or has finished in them
  pub zero-goes-on : (t e : State) → s ≡ t → t.finished ≡ false → wave_done d files order t ≡ e → zero_done d files order ≡ e
  zero-goes-on t e h f g = zero-is false (ap (λ (x : State). x.finished) h ∙ f) ∙ (ap (wave_done d files order) h ∙ g)

  pub zero-stops : (t : State) → s ≡ t → t.finished ≡ true → zero_done d files order ≡ t
  zero-stops t h f = zero-is true (ap (λ (x : State). x.finished) h ∙ f) ∙ h

  -- no tick has begun
  zero-ticks : (f : Bool) → s.finished ≡ f → (zero_done d files order).ticks ≡ 0
  zero-ticks true e = ap (λ (t : State). t.ticks) (zero-is true e) ∙ sym (execs-ticks _ (blocks is_init d.procs) (fresh (zeros d.rows)))
  zero-ticks false e = ap (λ (t : State). t.ticks) (zero-is false e) ∙ sym (execs-ticks _ (blocks is_init d.procs) (fresh (zeros d.rows)))

  -- and no update is pending, unless the run has finished
  zero-later : (f : Bool) → s.finished ≡ f → (zero_done d files order).finished ≡ false → (zero_done d files order).later ≡ []
  zero-later true e h =
      let over = ap (λ (t : State). t.finished) (zero-is true e) in
      let z : ⊥ = cc in absurd z
  zero-later false e h = ap (λ (t : State). t.later) (zero-is false e)

  module _ (u : IsUnrolled d) (checked : IsChecked d) (ord : IsOrder d order) (e : Early) (same : zero_done d files order ≡ state_in e)
      (cans : (plan : Plan) → CanRun (from_zero d files plan) (table_of d) (nets_of d files order)) where
    x : IsFirst d files order checked ord (zero_done d files order)
    x = first d files order checked ord

    module _ (plan : Plan) where
      abbrev o : Origin
      o = from_zero d files plan

      can : CanRun o (table_of d) (nets_of d files order)
      can = cans plan

      reached : IsReached o x.queue
      reached = agrees o u (checked_quiet d checked) (x.boundary plan)

      there : ComesTo o (table_of d) (nets_of d files order) can x.queue.state.count reached.point
      there = each_comes o (table_of d) (nets_of d files order) can reached.after

      queue-is : x.queue.state ≡ state_in e
      queue-is = x.state ∙ same

      stage-is : there.stage.state ≡ x.queue.state
      stage-is = there.stands.state ∙ reached.same

      at-first : e.machine.finished ≡ false → IsAtFirst d there.stage
      at-first f =
          let zero = ap (λ (t : State). t.finished) same ∙ f in
          let alive = ap (λ (t : State). t.finished) x.state ∙ zero in
          let at = reached.between alive in
          let quiet = x.quiet zero in
          record {
            rises = stands_rise d (table_of d) can.table there.stands ∙ (ap at_boundary at ∙ last-is x.queue.phase x.queue.ahead quiet.place.phase quiet.place.ahead);
            committed = there.stands.committed ∙ (ap committed_at at ∙ sym (ap (λ (t : State). t.values) stage-is));
            later = ap (λ (t : State). t.later) (stage-is ∙ x.state) ∙ zero-later s.finished refl zero;
          }

      comes-behind : ComesBehind d files order plan e
      comes-behind = record {
        stage = there.stage;
        comes = subst (λ c. Comes o (table_of d) (nets_of d files order) c there.stage) (ap (λ (t : State). t.count) queue-is) there.comes;
        state = stage-is ∙ queue-is;
        first = at-first;
      }

    pub is-behind : IsMachine (names_of d) e.machine → IsBehindZero d files order e
    is-behind m = record {
      machine = m;
      ticks = sym (ap (λ (t : State). t.ticks) same) ∙ zero-ticks s.finished refl;
      table = subst (IsTable files) (ap (λ (t : State). t.table) (x.state ∙ same)) (boundary_open {o = over d files 0} tt (x.boundary (over d files 0).plan));
      comes = comes-behind;
    }
