use Rattle.std.proofs.Common.{◌≡◌, false, subst}
use Rattle.vl_eval.specs.vl_design.specs.Alone.{Boundary}
use Rattle.vl_eval.specs.vl_design.specs.Queue.{Queue}
use Rattle.ten_core.specs.cell_form.specs.Views.{bank_of}
use Rattle.ten_parcel.specs.declared.parcel.Parcel.{Parcel}
use Rattle.ten_parcel.specs.Parcels.{run_of, ticks_of, IsParcel}
use Rattle.ten_parcel.proofs.Resting.{alive-there, never-alive}
use Rattle.ten_parcel.proofs.Saving.{either, is-up, none-left, saved-rests, unsaved-rests}
use Rattle.ten_parcel.proofs.parcel.Parcel.save.Goals as goal

-- its run hasn't finished
abbrev IsAlive : Parcel → Type 0
IsAlive p = (q : Queue) × Boundary (run_of p) (ticks_of p) q × (q.state.finished ≡ false)

pub save-requires : goal.save-requires
save-requires c =
    let t = c.in-Rests.tenant in
    let s = subst (λ (p : Parcel). IsParcel p) c.in-Rests.is c.requires.parcel in
    let q = subst (λ (p : Parcel). IsAlive p) c.in-Rests.is c.requires.goes_on in
    let x = c.a_shell_at_rest_is_at_a_boundary.ensures.boundary t.shell (bank_of t.bank) s.acts s.stage s.on s.rests in
    let f = alive-there t s x q.0 q.1 q.2 in
    (s.acts, s.stage, s.on, is-up t s f, none-left t s f)

pub returns-in-Rests-clause-parcel : goal.returns-in-Rests-clause-parcel
returns-in-Rests-clause-parcel c =
    let t = c.in-Rests.tenant in
    let s = subst (λ (p : Parcel). IsParcel p) c.in-Rests.is c.requires.parcel in
    let q = subst (λ (p : Parcel). IsAlive p) c.in-Rests.is c.requires.goes_on in
    let x = c.a_shell_at_rest_is_at_a_boundary.ensures.boundary t.shell (bank_of t.bank) s.acts s.stage s.on s.rests in
    let f = alive-there t s x q.0 q.1 q.2 in
    let r = c.save.new.self in
    either c.save.result c.save.ensures.stands c.save.ensures.err (saved-rests t s f r c.save.ensures.same.1) (unsaved-rests t s r)

pub returns-in-Over-clause-free : goal.returns-in-Over-clause-free
returns-in-Over-clause-free c =
    let x = c.in-Over.field-0 in
    let s = subst (λ (p : Parcel). IsParcel p) c.in-Over.is c.requires.parcel in
    let q = subst (λ (p : Parcel). IsAlive p) c.in-Over.is c.requires.goes_on in
    absurd (never-alive x s (c.a_run_over_in_time_zero_has_ended.ensures x s) q.0 q.1 q.2)
