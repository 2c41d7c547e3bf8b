use Rattle.std.proofs.Common.{List, length, refl, sym, ap, ◌∙◌, arith}
use Rattle.std.specs.Prelude.{slice_get}
use Rattle.std.proofs.lemmas.Option.{slice_get_read}
use Rattle.ten_core.specs.cell_form.specs.Views.{bank_of}
use Rattle.fab_model.specs.ten_parcel.specs.declared.tenant.Tenant.{Tenant}
use Rattle.fab_core.proofs.Points.{tick-is}
use Rattle.fab_core.proofs.Residents.{waiter-got, waiting-long}
use Rattle.fab_core.proofs.cores.FabCore.waiter.Goals as goal

pub unreachable-requires : goal.unreachable-requires
unreachable-requires c =
    let x = c.args.self.now in
    let past = c.in-None.ensures.lookup.3 in
    let size = ap length c.deref.ensures.value in
    let long = waiting-long x.line.items c.requires.0.line c.requires.1.line in
    let lt = c.requires.2 in
    omega (arith, past, size, long, lt)

pub returns : goal.returns
returns c = λ f p h is.
    let x = c.args.self.now in
    let r = c.in-Some.waiter.now in
    let xs = c.deref.result.now in
    let k = c.in-Some.ensures.lookup in
    let e = sym (slice_get_read xs (length xs) c.args.place r refl k.3.0 k.1) ∙ ap (λ (ys : List Tenant). slice_get ys c.args.place) c.deref.ensures.value in
    let s = waiter-got x.line.items f.line c.args.place r p e h.line is in
    (s.point.number, c.last_tick.ensures (bank_of r.bank) p.acts p.stage s.point.stands ∙ tick-is r.shell (bank_of r.bank) p s.point)
