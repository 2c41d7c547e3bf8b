use Rattle.std.proofs.Common.{List, get_or, arith, sym, subst}
use Rattle.std.specs.List.{remove}
use Rattle.std.proofs.lemmas.Option.{slice_get-get_or}
use Rattle.ten_core.specs.cell_form.specs.Views.{bank_of}
use Rattle.fab_model.specs.ten_parcel.specs.declared.parcel.Parcel.{Parcel}
use Rattle.fab_model.specs.ten_parcel.specs.declared.tenant.Tenant.{Tenant}
use Rattle.fab_model.specs.Points.{Point}
use Rattle.fab_model.specs.Fabrics.{Fabric}
use Rattle.fab_core.specs.declared.cores.FabCore.{FabCore}
use Rattle.fab_core.specs.Standing.{AreWaiting, IsAtRest, IsFabric, IsPointOf}
use Rattle.fab_core.proofs.Found.{found_here, found_line, has_none, still_other, taken_here, taken_line, taken_none}
use Rattle.fab_core.proofs.Lists.{point_in, waiting_at, waiting_many, waiting_remove}
use Rattle.fab_core.proofs.Looked.{resident_at, resident_not, waiter_at, waiter_not}
use Rattle.fab_core.proofs.Once.{once_back}
use Rattle.fab_core.proofs.Resting.{rests_from}
use Rattle.fab_core.proofs.cores.FabCore.take.Goals as goal

pub take_resident-requires : goal.take_resident-requires
take_resident-requires c =
    let first = resident_at c.args.self.now c.requires.0 c.requires.1 c.args.tenant c.resident_of.result c.deref.result.now c.deref.ensures.value c.resident_of.ensures c.in-Some.place c.in-Some.is in
    (c.requires.0, c.requires.1, first.there)

pub into_parcel-requires : goal.into_parcel-requires
into_parcel-requires c =
    let x = c.args.self.now in
    let f = c.requires.0 in
    let k = c.in-Some.place in
    let first = resident_at x f c.requires.1 c.args.tenant c.resident_of.result c.deref.result.now c.deref.ensures.value c.resident_of.ensures k c.in-Some.is in
    let p : Point = get_or f.residents k (point_in f.residents k first.there) in
    let on = c.take_resident.ensures.tenant f p c.requires.1 (slice_get-get_or f.residents k (point_in f.residents k first.there) first.there) in
    let t = c.take_resident.result in
    (p.acts, p.stage, on.stands, rests_from t.shell (bank_of t.bank) p on (still_other x f f k (point_in f.residents k first.there) c.requires.1 c.requires.1 c.requires.2 first.there))

pub returns-in-Some-clause-fabric : goal.returns-in-Some-clause-fabric
returns-in-Some-clause-fabric c = λ f h.
    let first = resident_at c.args.self.now f h c.args.tenant c.resident_of.result c.deref.result.now c.deref.ensures.value c.resident_of.ensures c.in-Some.place c.in-Some.is in
    subst (λ (g : Fabric). IsFabric c.take_resident.new.self g) (sym (taken_here c.args.tenant f c.in-Some.place first)) (c.take_resident.ensures.fabric f h)

pub returns-in-Some-clause-some : goal.returns-in-Some-clause-some
returns-in-Some-clause-some c = λ f h.
    let x = c.args.self.now in
    let k = c.in-Some.place in
    let first = resident_at x f h c.args.tenant c.resident_of.result c.deref.result.now c.deref.ensures.value c.resident_of.ensures k c.in-Some.is in
    let d : Point = point_in f.residents k first.there in
    let p : Point = get_or f.residents k d in
    let on = c.take_resident.ensures.tenant f p h (slice_get-get_or f.residents k d first.there) in
    let rest : IsAtRest c.take_resident.result p = record { point = on; rests = still_other x c.requires.0 f k d c.requires.1 h c.requires.2 first.there } in
    (p, found_here c.args.tenant f k first d, subst (λ (y : Parcel). IsPointOf y p) (sym c.into_parcel.ensures.same) rest)

pub returns-in_err-place-clause-fabric : goal.returns-in_err-place-clause-fabric
returns-in_err-place-clause-fabric c = λ f h.
    let x = c.args.self.now in
    let none = resident_not x f h c.args.tenant c.resident_of.result c.deref.result.now c.deref.ensures.value c.resident_of.ensures c.in_default.is in
    let no = waiter_not x f h c.args.tenant c.waiter_of.result c.deref-2.result.now c.deref-2.ensures.value c.waiter_of.ensures c.in_err-place.was in
    subst (λ (g : Fabric). IsFabric x g) (sym (taken_none c.args.tenant f none no)) h

pub returns-in_err-place-clause-none : goal.returns-in_err-place-clause-none
returns-in_err-place-clause-none c =
    rw c.from_residual.ensures (λ f h.
    let x = c.args.self.now in
    let none = resident_not x f h c.args.tenant c.resident_of.result c.deref.result.now c.deref.ensures.value c.resident_of.ensures c.in_default.is in
    let no = waiter_not x f h c.args.tenant c.waiter_of.result c.deref-2.result.now c.deref-2.ensures.value c.waiter_of.ensures c.in_err-place.was in
    has_none c.args.tenant f none no)

pub into_parcel-requires-2 : goal.into_parcel-requires-2
into_parcel-requires-2 c =
    let x = c.args.self.now in
    let f = c.requires.0 in
    let k = c.in_ok-place.place in
    let t = c.remove.result in
    let first = waiter_at x f c.requires.1 c.args.tenant c.waiter_of.result c.deref-2.result.now c.deref-2.ensures.value c.waiter_of.ensures k c.in_ok-place.was in
    let p : Point = get_or f.line k (point_in f.line k first.there) in
    let many = waiting_many x.line.items f.line c.requires.1.line in
    let lt = first.there in
    let rest : IsAtRest t p = subst (λ (y : Tenant). IsAtRest y p) (sym c.remove.ensures.value) (waiting_at x.line.items f.line k t (point_in f.line k first.there) c.requires.1.line (omega (arith, many, lt))) in
    (p.acts, p.stage, rest.point.stands, rests_from t.shell (bank_of t.bank) p rest.point rest.rests)

pub returns-clause-fabric : goal.returns-clause-fabric
returns-clause-fabric c = λ f h.
    let x = c.args.self.now in
    let k = c.in_ok-place.place in
    let none = resident_not x f h c.args.tenant c.resident_of.result c.deref.result.now c.deref.ensures.value c.resident_of.ensures c.in_default.is in
    let first = waiter_at x f h c.args.tenant c.waiter_of.result c.deref-2.result.now c.deref-2.ensures.value c.waiter_of.ensures k c.in_ok-place.was in
    let y : FabCore = record x { line = c.remove.new.self } in
    let made : IsFabric y (record f { line = remove f.line k }) = record {
      capacity = h.capacity;
      used = h.used;
      fits = h.fits;
      holding = h.holding;
      apart = h.apart;
      once = once_back f.residents f.line k h.once;
      residents = h.residents;
      line = subst (λ (ts : List Tenant). AreWaiting ts (remove f.line k)) (sym c.remove.ensures.items) (waiting_remove x.line.items f.line k h.line);
    } in
    subst (λ (g : Fabric). IsFabric y g) (sym (taken_line c.args.tenant f none k first)) made

pub returns-clause-some : goal.returns-clause-some
returns-clause-some c = λ f h.
    let x = c.args.self.now in
    let k = c.in_ok-place.place in
    let t = c.remove.result in
    let none = resident_not x f h c.args.tenant c.resident_of.result c.deref.result.now c.deref.ensures.value c.resident_of.ensures c.in_default.is in
    let first = waiter_at x f h c.args.tenant c.waiter_of.result c.deref-2.result.now c.deref-2.ensures.value c.waiter_of.ensures k c.in_ok-place.was in
    let d : Point = point_in f.line k first.there in
    let p : Point = get_or f.line k d in
    let many = waiting_many x.line.items f.line h.line in
    let lt = first.there in
    let rest : IsAtRest t p = subst (λ (y : Tenant). IsAtRest y p) (sym c.remove.ensures.value) (waiting_at x.line.items f.line k t d h.line (omega (arith, many, lt))) in
    (p, found_line c.args.tenant f none k d first, subst (λ (y : Parcel). IsPointOf y p) (sym c.into_parcel-2.ensures.same) rest)
