use Rattle.std.proofs.Common.{sym, subst}
use Rattle.ten_core.specs.cell_form.specs.Views.{bank_of}
use Rattle.ten_core.specs.ten_plan.specs.Written.{HasRows}
use Rattle.ten_shell.specs.Shells as shell
use Rattle.ten_shell.specs.Shells.{flat_in, free_in, saved_in}
use Rattle.ten_parcel.specs.declared.parcel.Parcel.{Parcel}
use Rattle.ten_parcel.specs.declared.parcel.Parcel.TheVariants as parcel
use Rattle.ten_parcel.specs.Parcels.{IsParcel, AreWritable, run_of}
use Rattle.ten_parcel.proofs.Remains.{all-writable}
use Rattle.ten_parcel.proofs.Resting.{HasPrinted, HasKept, printed-there, printed-over, kept-there, kept-over}
use Rattle.ten_parcel.proofs.parcel.Parcel.into_remains.Goals as goal

pub returns-in-Rests-clause-printed : goal.returns-in-Rests-clause-printed
returns-in-Rests-clause-printed c =
    let t = c.in-Rests.tenant in
    subst (λ (p : Parcel). IsParcel p → HasPrinted p t.shell.engine.printed.items) (sym c.in-Rests.is)
    (λ s. printed-there t s (c.a_shell_at_rest_is_at_a_boundary.ensures.boundary t.shell (bank_of t.bank) s.acts s.stage s.on s.rests) t.shell.engine.printed.items s.on.at.printed)

pub returns-in-Rests-clause-saves : goal.returns-in-Rests-clause-saves
returns-in-Rests-clause-saves c =
    let t = c.in-Rests.tenant in
    subst (λ (p : Parcel). IsParcel p → HasKept p t.shell.saved.items) (sym c.in-Rests.is)
    (λ s. kept-there t s (c.a_shell_at_rest_is_at_a_boundary.ensures.kept t.shell (bank_of t.bank) s.acts s.stage s.on s.rests))

pub returns-in-Rests-clause-written : goal.returns-in-Rests-clause-written
returns-in-Rests-clause-written c =
    let t = c.in-Rests.tenant in
    subst
    (λ (p : Parcel). IsParcel p → HasRows (run_of p).flat.rows → AreWritable (record { origin = t.shell.engine.origin; printed = t.shell.engine.printed; saved = t.shell.saved }))
    (sym c.in-Rests.is)
    (λ s rows.
    let w = s.on in
    all-writable (flat_in t.shell).rows t.shell.saved.items
    (c.kept_snapshots_are_written.ensures (shell.run_of t.shell) (free_in t.shell) s.stage.state.ticks (saved_in t.shell) w.held rows w.files w.running.start w.opens
    (c.a_shell_at_rest_is_at_a_boundary.ensures.kept t.shell (bank_of t.bank) s.acts s.stage s.on s.rests)))

pub returns-in-Over-clause-printed : goal.returns-in-Over-clause-printed
returns-in-Over-clause-printed c =
    let x = c.in-Over.over in
    subst (λ (p : Parcel). IsParcel p → HasPrinted p x.early.machine.printed.items) (sym c.in-Over.is) (λ s. printed-over x s (c.a_run_over_in_time_zero_has_ended.ensures x s))

pub returns-in-Over-clause-saves : goal.returns-in-Over-clause-saves
returns-in-Over-clause-saves c =
    let x = c.in-Over.over in
    subst (λ (p : Parcel). IsParcel p → HasKept p c.new.result.items) (sym c.in-Over.is)
    (λ s. subst (λ saved. HasKept (parcel.Over x) saved) (sym c.new.ensures.items) (kept-over x s (c.a_run_over_in_time_zero_has_ended.ensures x s)))
