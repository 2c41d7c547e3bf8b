use Rattle.std.proofs.Common.{subst}
use Rattle.ten_core.specs.cell_form.specs.Views.{bank_of}
use Rattle.ten_parcel.specs.declared.parcel.Parcel.{Parcel}
use Rattle.ten_parcel.specs.Parcels.{HasNotEnded, IsParcel}
use Rattle.ten_parcel.proofs.Resting.{never-unended, unended-there}
use Rattle.ten_parcel.proofs.parcel.Parcel.stop.Goals as goal

pub stop-requires : goal.stop-requires
stop-requires c =
    let t = c.in-Rests.tenant in
    let s = subst (λ (p : Parcel). IsParcel p) c.in-Rests.is c.requires.parcel in
    let x = c.a_shell_at_rest_is_at_a_boundary.ensures.boundary t.shell (bank_of t.bank) s.acts s.stage s.on s.rests in
    (bank_of t.bank, s.acts, s.stage, s.on, s.rests, unended-there t s x (subst (λ (p : Parcel). HasNotEnded p) c.in-Rests.is c.requires.goes_on))

pub unreachable-requires : goal.unreachable-requires
unreachable-requires c =
    let x = c.in-Over.field-0 in
    let s = subst (λ (p : Parcel). IsParcel p) c.in-Over.is c.requires.parcel in
    never-unended x s (c.a_run_over_in_time_zero_has_ended.ensures x s) (subst (λ (p : Parcel). HasNotEnded p) c.in-Over.is c.requires.goes_on)
