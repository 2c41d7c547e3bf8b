use Rattle.std.proofs.Common.{sym, subst}
use Rattle.ten_core.specs.cell_form.specs.Views.{bank_of}
use Rattle.ten_shell.specs.Shells.{run_of}
use Rattle.ten_parcel.specs.declared.parcel.Parcel.{Parcel}
use Rattle.ten_parcel.specs.Parcels.{IsParcel}
use Rattle.ten_parcel.proofs.Resting.{HasCounted, counted-there, counted-over}
use Rattle.ten_parcel.proofs.parcel.Parcel.cycles.Goals as goal

pub returns-in-Rests : goal.returns-in-Rests
returns-in-Rests c =
    subst (λ (p : Parcel). IsParcel p → HasCounted p c.cycles.result) (sym c.in-Rests.is)
    (λ s.
    let t = c.in-Rests.tenant in
    counted-there t s (c.a_shell_at_rest_is_at_a_boundary.ensures.boundary t.shell (bank_of t.bank) s.acts s.stage s.on s.rests) c.cycles.result
    (c.cycles.ensures (bank_of t.bank) (run_of t.shell) s.on.order s.acts s.stage s.on.at))

pub returns-in-Over : goal.returns-in-Over
returns-in-Over c =
    let x = c.in-Over.over in
    subst (λ (p : Parcel). IsParcel p → HasCounted p x.early.acts) (sym c.in-Over.is) (λ s. counted-over x s (c.a_run_over_in_time_zero_has_ended.ensures x s))
