use Rattle.std.proofs.Common.{Some, sym, subst}
use Rattle.vl_eval.specs.vl_design.specs.declared.design.End.TheVariants.{Finished}
use Rattle.ten_core.specs.cell_form.specs.Views.{bank_of}
use Rattle.ten_parcel.specs.declared.parcel.Parcel.{Parcel}
use Rattle.ten_parcel.specs.Parcels.{IsParcel}
use Rattle.ten_parcel.proofs.Resting.{HasReason, HasEnded, reason-there, ended-there, reason-over, ended-over}
use Rattle.ten_parcel.proofs.parcel.Parcel.ended.Goals as goal

pub returns-in-Rests-clause-reason : goal.returns-in-Rests-clause-reason
returns-in-Rests-clause-reason c =
    let t = c.in-Rests.tenant in
    let s = subst (λ (p : Parcel). IsParcel p) c.in-Rests.is c.requires in
    subst (λ (p : Parcel). HasReason p c.end.result) (sym c.in-Rests.is)
    (reason-there t s c.end.result (λ q at. c.end.ensures (bank_of t.bank) s.acts s.stage q s.on s.rests at))

pub returns-in-Rests-clause-ends : goal.returns-in-Rests-clause-ends
returns-in-Rests-clause-ends c =
    let t = c.in-Rests.tenant in
    let s = subst (λ (p : Parcel). IsParcel p) c.in-Rests.is c.requires in
    subst (λ (p : Parcel). HasEnded p c.end.result) (sym c.in-Rests.is)
    (ended-there t s (c.a_shell_at_rest_is_at_a_boundary.ensures.boundary t.shell (bank_of t.bank) s.acts s.stage s.on s.rests)
    (λ q end at why. c.a_shell_at_rest_is_at_a_boundary.ensures.ends t.shell (bank_of t.bank) s.acts s.stage q end s.on s.rests at why) c.end.result
    (reason-there t s c.end.result (λ q at. c.end.ensures (bank_of t.bank) s.acts s.stage q s.on s.rests at)))

pub returns-in-Over-clause-reason : goal.returns-in-Over-clause-reason
returns-in-Over-clause-reason c =
    let x = c.in-Over.field-0 in
    let s = subst (λ (p : Parcel). IsParcel p) c.in-Over.is c.requires in
    subst (λ (p : Parcel). HasReason p (Some Finished)) (sym c.in-Over.is) (reason-over x s (c.a_run_over_in_time_zero_has_ended.ensures x s))

pub returns-in-Over-clause-ends : goal.returns-in-Over-clause-ends
returns-in-Over-clause-ends c =
    let x = c.in-Over.field-0 in
    let s = subst (λ (p : Parcel). IsParcel p) c.in-Over.is c.requires in
    subst (λ (p : Parcel). HasEnded p (Some Finished)) (sym c.in-Over.is) (ended-over x s (c.a_run_over_in_time_zero_has_ended.ensures x s))
