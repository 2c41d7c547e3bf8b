-- What is known of a tenant that is taken out.
use Rattle.std.proofs.Common.{◌≡◌, ℕ, Bool, true, Option, Some, None, List, [], ◌∷◌, ◌++◌, refl, sym, ap, ◌∙◌}
use Rattle.std.specs.Prelude.{nat_le, if◌then◌else◌}
use Rattle.vl_design.specs.declared.design.End.{End}
use Rattle.vl_design.specs.declared.design.End.TheVariants as end
use Rattle.vl_design.specs.Alone as alone
use Rattle.vl_design.specs.Alone.{stop_at}
use Rattle.ten_core.specs.Tenants.{origin_of}
use Rattle.fab_core.specs.ten_parcel.specs.declared.parcel.Parcel.{Parcel}
use Rattle.fab_core.specs.ten_parcel.specs.declared.parcel.Parcel.TheVariants as parcel
use Rattle.fab_core.specs.ten_parcel.specs.Parcels.{ticks_of}
use Rattle.fab_core.specs.ten_shell.specs.declared.shell.Why.TheVariants as why
use Rattle.fab_core.specs.fab_model.specs.Points.{ended, tick_of, Point}
use Rattle.fab_core.specs.Standing.{IsPointOf}
use Rattle.fab_core.proofs.Parcels.{stopped_is}
use Rattle.fab_core.specs.fab_model.specs.declared.transit.Stay.{Stay}
use Rattle.fab_core.specs.fab_model.specs.declared.transit.Transit.{Transit}
use Rattle.fab_core.specs.fab_model.specs.Moves.{ends_idle}
use Rattle.fab_core.specs.fab_model.specs.Stays.{is_idle}
use Rattle.fab_bay.specs.declared.berth.Berth.{Berth}
use Rattle.fab_bay.specs.Berths.{IsBerth}
use Rattle.fab_bay.specs.Taking.{IsWithdrawn}
use Rattle.fab_bay.proofs.Leavers.{idle_is, IsLeaver}
use Rattle.fab_bay.proofs.Pointed.{tells}
use Rattle.fab_core.specs.fab_model.proofs.Passing.{ends-snoc as last-idle}

-- why a run has ended, by what is read for that
abbrev end_by : alone.Origin → (stopped finished : Bool) → ℕ → Option End
end_by o stopped finished k =
    if stopped then Some end.Stopped else if finished then Some end.Finished else if nat_le o.plan.budget k then Some end.Budget else if stop_at k o.plan.errands then Some end.Stopped else None

-- a parcel's points have ended for one reason
pub ended-one : (q : Parcel) (p r : Point) → IsPointOf q p → IsPointOf q r → ended p ≡ ended r
ended-one (parcel.Rests t) p r h j =
    let origin = sym h.point.origin ∙ j.point.origin in
    let stopped = sym h.point.stopped ∙ j.point.stopped in
    let finished = sym h.point.stands.at.finished ∙ j.point.stands.at.finished in
    let ticks = sym h.point.stands.at.ticks ∙ j.point.stands.at.ticks in
    ap (λ o. end_by (origin_of o) p.stopped p.stage.state.finished p.stage.state.ticks) origin
    ∙ (ap (λ (x : Bool). end_by (origin_of r.origin) x p.stage.state.finished p.stage.state.ticks) stopped
    ∙ (ap (λ (x : Bool). end_by (origin_of r.origin) r.stopped x p.stage.state.ticks) finished ∙ ap (λ (k : ℕ). end_by (origin_of r.origin) r.stopped r.stage.state.finished k) ticks))
ended-one (parcel.Over x) p r h j = absurd h

-- it stands where a berth's tenant does, and with one stay more where it was a resident
pub withdrawn_by : (n : ℕ) (b : Berth) (p : Point) (t : Transit) → IsBerth n b p → b.noted ≡ tick_of p → IsLeaver (why.Ended end.Finished) p t.parcel
    → (t.resident ≡ true → (g : ℕ) × (t.stays.items ≡ b.stays.items ++ record { fabric = g; from = b.since; to = ticks_of t.parcel; by_move = b.by_move } ∷ []))
    → IsWithdrawn t
withdrawn_by n b p t h now l stays =
    let moved = (tells t.parcel p l.at).moved in
    record {
      lives = stopped_is t.parcel p l.at ∙ h.lives;
      lively = λ m r at. ended-one t.parcel r p at l.at ∙ h.lively (sym moved ∙ m);
      idle = λ m here.
          let s = stays here in
          ap ends_idle s.1 ∙ (last-idle b.stays.items (record { fabric = s.0; from = b.since; to = ticks_of t.parcel; by_move = b.by_move }) ∙ (idle_is n b p (why.Ended end.Finished) t.parcel h now l s.0 ∙ (sym moved ∙ m)));
    }
