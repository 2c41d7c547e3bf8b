use Rattle.std.proofs.Common.{sym, subst}
use Rattle.ten_core.specs.cell_form.specs.Views.{bank_of}
use Rattle.ten_parcel.specs.declared.parcel.Parcel.{Parcel}
use Rattle.ten_parcel.specs.declared.parcel.Parcel.TheVariants as parcel
use Rattle.ten_alone.specs.Alone.{IsRunAlone}
use Rattle.ten_alone.proofs.Ending.{loaded-as, over-alone, rests-alone}
use Rattle.ten_alone.proofs.alone.run_alone.Goals as goal

pub load-requires : goal.load-requires
load-requires c = c.a_tenants_image_can_be_run.ensures c.args.origin c.requires

pub run-requires : goal.run-requires
run-requires c =
    let t = c.in-Rests.tenant in
    let l = loaded-as c.args.number c.args.origin c.in_ok-tenant.field-0 (parcel.Rests t) c.in-Rests.is c.in_ok-tenant.ensures in
    (l.parcel.acts, l.parcel.stage, l.parcel.on, l.stopped)

pub into_parcel-requires : goal.into_parcel-requires
into_parcel-requires c = let s = c.in_ok-run-in-Rests.ensures.rests in (s.acts, s.stage, s.on, s.rests)

pub returns-in_ok-run-in-Rests : goal.returns-in_ok-run-in-Rests
returns-in_ok-run-in-Rests c =
    let n = c.args.number in
    let x = c.args.origin in
    let t = c.in-Rests.tenant in
    let u = c.run.new.self in
    let l = loaded-as n x c.in_ok-tenant.field-0 (parcel.Rests t) c.in-Rests.is c.in_ok-tenant.ensures in
    let s = c.in_ok-run-in-Rests.ensures.rests in
    let law = c.a_shell_at_rest_is_at_a_boundary.ensures in
    subst (λ (p : Parcel). IsRunAlone n x p) (sym c.into_parcel.ensures.same)
    (rests-alone n x t u l c.run.ensures.same s (c.in_ok-run-in-Rests.ensures.ended s.acts s.stage s.on)
    (law.boundary u.shell (bank_of u.bank) s.acts s.stage s.on s.rests)
    (λ q end at why. law.ends u.shell (bank_of u.bank) s.acts s.stage q end s.on s.rests at why))

pub returns-in-Over : goal.returns-in-Over
returns-in-Over c =
    let n = c.args.number in
    let x = c.args.origin in
    let v = c.in-Over.over in
    over-alone n x v (loaded-as n x c.in_ok-tenant.field-0 (parcel.Over v) c.in-Over.is c.in_ok-tenant.ensures)
    (c.a_run_over_in_time_zero_has_ended.ensures v (loaded-as n x c.in_ok-tenant.field-0 (parcel.Over v) c.in-Over.is c.in_ok-tenant.ensures).parcel)
