use Rattle.std.proofs.Common.{[], sym, subst}
use Rattle.ten_core.specs.cell_form.specs.Views.{bank_of}
use Rattle.ten_parcel.specs.declared.parcel.Parcel.{Parcel}
use Rattle.ten_parcel.specs.declared.parcel.Parcel.TheVariants as parcel
use Rattle.ten_parcel.specs.Parcels.{IsParcel}
use Rattle.ten_parcel.proofs.Resting.{HasKept, kept-there, kept-over}
use Rattle.ten_parcel.proofs.parcel.Parcel.saves.Goals as goal

pub returns-in-Rests : goal.returns-in-Rests
returns-in-Rests c =
    subst (λ (p : Parcel). IsParcel p → HasKept p c.as_slice.result.now) (sym c.in-Rests.is)
    (λ s.
    let t = c.in-Rests.tenant in
    subst (λ saved. HasKept (parcel.Rests t) saved) (sym c.as_slice.ensures.value)
    (kept-there t s (c.a_shell_at_rest_is_at_a_boundary.ensures.kept t.shell (bank_of t.bank) s.acts s.stage s.on s.rests)))

pub returns-in-Over : goal.returns-in-Over
returns-in-Over c =
    let x = c.in-Over.field-0 in
    subst (λ (p : Parcel). IsParcel p → HasKept p []) (sym c.in-Over.is) (λ s. kept-over x s (c.a_run_over_in_time_zero_has_ended.ensures x s))
