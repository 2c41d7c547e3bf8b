-- A run that has finished in time zero ends there.
use Rattle.std.proofs.Common.{◌≡◌, ℕ, true, List, Option, refl, sym, ap, ◌∙◌, subst, arith}
use Rattle.std.specs.Prelude.{option_map}
use Rattle.std.specs.Arc.{arc_value}
use Rattle.vl_eval.specs.vl_design.specs.declared.design.End.TheVariants.{Finished}
use Rattle.vl_eval.specs.vl_design.specs.Alone as alone
use Rattle.vl_eval.specs.vl_design.specs.Alone.{Boundary, begun, ticked, Ends, Plan}
use Rattle.vl_eval.specs.vl_design.specs.Queue.{Queue}
use Rattle.vl_eval.specs.vl_design.specs.Syntax.{Flat}
use Rattle.vl_eval.specs.vl_design.specs.Trees.{flat_of}
use Rattle.ten_form.specs.vl_runs.proofs.Onward.{checked_quiet}
use Rattle.ten_zero.specs.plain_run.specs.Runs.{over}
use Rattle.sub_nodes.specs.Code.{table_of}
use Rattle.sub_nodes.specs.Stands.{CanRun}
use Rattle.sub_runs.proofs.Ending.{finished_ends}
use Rattle.ten_form.specs.Nets.{nets_of}
use Rattle.ten_core.specs.ten_plan.specs.declared.held.Held.{Held}
use Rattle.ten_core.specs.ten_plan.specs.Held.{snapshot_of}
use Rattle.ten_core.specs.declared.origin.Origin.{Origin}
use Rattle.ten_core.specs.Tenants.{origin_of}
use Rattle.ten_zero.specs.Early.{state_in, ComesBehind}
use Rattle.ten_parcel.specs.declared.parcel.Over.{Over}
use Rattle.ten_parcel.specs.Parcels.{IsOver}

-- a run comes to the same boundaries with another plan
boundary-with : {o : alone.Origin} {k : ℕ} {q : Queue} (plan : Plan) → Boundary o k q → Boundary (record o { plan = plan }) k q
boundary-with plan (begun e s) = begun e s
boundary-with plan (ticked x s) = ticked (boundary-with plan x) s

module _ (x : Over) (s : IsOver x) where
  abbrev y : Origin
  y = arc_value x.origin

  abbrev d : Flat
  d = flat_of y.image.design

  abbrev order : List ℕ
  order = y.image.order.items

  -- with no ticks and no errands
  abbrev pub bare : alone.Origin
  bare = over d y.files 0

  module _ (can : CanRun bare (table_of d) (nets_of d y.files order)) where
    behind : ComesBehind d y.files order bare.plan x.early
    behind = s.over.behind.comes bare.plan

    bare-ends : (q : Queue) × Ends bare 0 Finished q × (q.state ≡ state_in x.early)
    bare-ends =
        let b = behind in
        let none : b.stage.state.ticks ≡ 0 = ap (λ z. z.ticks) b.state ∙ s.over.behind.ticks in
        let finished : b.stage.state.finished ≡ true = ap (λ z. z.finished) b.state ∙ s.over.finished in
        let z = finished_ends bare (table_of d) (nets_of d y.files order) can (checked_quiet d s.can.begins.checked) refl b.comes finished (omega (arith, none)) in
        (z.0, subst (λ k. Ends bare k Finished z.0) none z.1, z.2 ∙ b.state)

    -- in the run from this origin, which starts from nothing
    bound : (q : Queue) → Boundary bare 0 q → Boundary (origin_of y) 0 q
    bound q at =
        subst (λ (h : Option Held). Boundary (record { flat = d; files = y.files; plan = (origin_of y).plan; resume = option_map (snapshot_of d.rows) h }) 0 q)
        (sym s.over.start) (boundary-with (origin_of y).plan at)

    pub over-ends : (q : Queue) × Ends (origin_of y) 0 Finished q × (q.state ≡ state_in x.early)
    over-ends =
        let e = bare-ends in
        let q = e.0 in
        let finished : q.state.finished ≡ true = ap (λ z. z.finished) e.2 ∙ s.over.finished in
        (q, record { at = bound q e.1.at; why = rw finished refl; first = λ j b l at. absurd (omega (arith, l)) }, e.2)
