use Rattle.std.proofs.Common.{get_or, sym, ◌∙◌, subst}
use Rattle.std.proofs.lemmas.Option.{none-some, slice_get-get_or}
use Rattle.ten_core.specs.cell_form.specs.Views.{bank_of}
use Rattle.fab_model.specs.Points.{departed, Point}
use Rattle.fab_model.specs.Fabrics.{Fabric}
use Rattle.fab_model.specs.ten_parcel.specs.declared.parcel.Parcel.{Parcel}
use Rattle.fab_core.specs.Standing.{IsAtRest, IsFabric, IsPointOf}
use Rattle.fab_core.proofs.Found.{departed_rests, first_point, first_rests, left_here}
use Rattle.fab_core.proofs.Lists.{point_in}
use Rattle.fab_core.proofs.Looked.{resident_at, resident_not}
use Rattle.fab_core.proofs.Places.{none_found}
use Rattle.fab_core.proofs.Resting.{due_same, rests_from}
use Rattle.fab_core.proofs.cores.FabCore.leave.Goals as goal

pub unreachable-requires : goal.unreachable-requires
unreachable-requires c =
    let x = c.args.self.now in
    let f = c.requires.0 in
    let none = resident_not x f c.requires.3 c.args.tenant c.resident_of.result c.deref.result.now c.deref.ensures.value c.resident_of.ensures c.in_default.is in
    none-some c.requires.1 (sym (none_found c.args.tenant f.residents none) ∙ c.requires.5)

pub take_resident-resident-requires : goal.take_resident-resident-requires
take_resident-resident-requires c =
    let first = resident_at c.args.self.now c.requires.0 c.requires.3 c.args.tenant c.resident_of.result c.deref.result.now c.deref.ensures.value c.resident_of.ensures c.in-Some.place c.in-Some.is in
    (c.requires.0, c.requires.3, first.there)

pub due-requires : goal.due-requires
due-requires c =
    let x = c.args.self.now in
    let f = c.requires.0 in
    let k = c.in-Some.place in
    let first = resident_at x f c.requires.3 c.args.tenant c.resident_of.result c.deref.result.now c.deref.ensures.value c.resident_of.ensures k c.in-Some.is in
    let d : Point = point_in f.residents k first.there in
    let p : Point = get_or f.residents k d in
    let on = c.take_resident-resident.ensures.tenant f p c.requires.3 (slice_get-get_or f.residents k d first.there) in
    (bank_of c.take_resident-resident.result.bank, p.acts, p.stage, on.stands)

pub returns-clause-fabric : goal.returns-clause-fabric
returns-clause-fabric c = λ f h.
    let first = resident_at c.args.self.now f h c.args.tenant c.resident_of.result c.deref.result.now c.deref.ensures.value c.resident_of.ensures c.in-Some.place c.in-Some.is in
    subst (λ (g : Fabric). IsFabric c.take_resident-resident.new.self g) (sym (left_here c.args.tenant f c.in-Some.place first)) (c.take_resident-resident.ensures.fabric f h)

pub unreachable-requires-in_default-due : goal.unreachable-requires-in_default-due
unreachable-requires-in_default-due c =
    let x = c.args.self.now in
    let f = c.requires.0 in
    let p = c.requires.1 in
    let k = c.in-Some.place in
    let t = c.take_resident-resident.result in
    let first = resident_at x f c.requires.3 c.args.tenant c.resident_of.result c.deref.result.now c.deref.ensures.value c.resident_of.ensures k c.in-Some.is in
    let on = c.take_resident-resident.ensures.tenant f p c.requires.3 (first_point c.args.tenant f k p first c.requires.5) in
    let still = first_rests x f f c.args.tenant k p c.requires.3 c.requires.3 c.requires.4 first c.requires.5 in
    none-some c.requires.2 (sym c.in_default-due.is ∙ c.due.ensures (bank_of t.bank) p.acts p.stage on.stands ∙ due_same t.shell (bank_of t.bank) p on still ∙ c.requires.6)

pub into_parcel-requires : goal.into_parcel-requires
into_parcel-requires c =
    let x = c.args.self.now in
    let f = c.requires.0 in
    let p = c.requires.1 in
    let k = c.in-Some.place in
    let why = c.in-Some-due.why in
    let t = c.moved_off.result in
    let q : Point = departed why p in
    let first = resident_at x f c.requires.3 c.args.tenant c.resident_of.result c.deref.result.now c.deref.ensures.value c.resident_of.ensures k c.in-Some.is in
    let on = c.take_resident-resident.ensures.tenant f p c.requires.3 (first_point c.args.tenant f k p first c.requires.5) in
    let still = first_rests x f f c.args.tenant k p c.requires.3 c.requires.3 c.requires.4 first c.requires.5 in
    let off = c.moved_off.ensures p on in
    (q.acts, q.stage, off.stands, rests_from t.shell (bank_of t.bank) q off (departed_rests why p still))

pub returns-clause-out : goal.returns-clause-out
returns-clause-out c = λ f p h e.
    let x = c.args.self.now in
    let k = c.in-Some.place in
    let why = c.in-Some-due.why in
    let t = c.take_resident-resident.result in
    let first = resident_at x f h c.args.tenant c.resident_of.result c.deref.result.now c.deref.ensures.value c.resident_of.ensures k c.in-Some.is in
    let on = c.take_resident-resident.ensures.tenant f p h (first_point c.args.tenant f k p first e) in
    let still = first_rests x c.requires.0 f c.args.tenant k p c.requires.3 h c.requires.4 first e in
    let rest : IsAtRest c.moved_off.result (departed why p) = record { point = c.moved_off.ensures p on; rests = departed_rests why p still } in (
      sym (due_same t.shell (bank_of t.bank) p on still) ∙ sym (c.due.ensures (bank_of t.bank) p.acts p.stage on.stands) ∙ c.in-Some-due.is,
      subst (λ (y : Parcel). IsPointOf y (departed why p)) (sym c.into_parcel.ensures.same) rest,
    )
