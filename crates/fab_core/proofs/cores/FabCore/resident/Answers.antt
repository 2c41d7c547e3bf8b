use Rattle.std.proofs.Common.{List, length, refl, sym, ap, ◌∙◌, arith}
use Rattle.std.specs.Prelude.{slice_get}
use Rattle.std.proofs.lemmas.Option.{slice_get_read}
use Rattle.fab_join.specs.Parts.{part_at}
use Rattle.fab_core.specs.declared.resident.Resident.{Resident}
use Rattle.fab_core.proofs.Points.{tick-is}
use Rattle.fab_core.proofs.Residents.{point-got, standing-long}
use Rattle.fab_core.proofs.cores.FabCore.resident.Goals as goal

pub unreachable-requires : goal.unreachable-requires
unreachable-requires c =
    let x = c.args.self.now in
    let past = c.in-None.ensures.lookup.3 in
    let size = ap length c.deref.ensures.value in
    let long = standing-long x.joined x.residents.items c.requires.0.residents c.requires.1.residents in
    let lt = c.requires.2 in
    omega (arith, past, size, long, lt)

pub returns : goal.returns
returns c = λ f p h is.
    let x = c.args.self.now in
    let r = c.in-Some.resident.now in
    let xs = c.deref.result.now in
    let k = c.in-Some.ensures.lookup in
    let e = sym (slice_get_read xs (length xs) c.args.place r refl k.3.0 k.1) ∙ ap (λ (ys : List Resident). slice_get ys c.args.place) c.deref.ensures.value in
    let s = point-got x.joined x.residents.items f.residents c.args.place r p e h.residents is in
    let b = (part_at x.joined r.part).bank in
    (s.point.number, c.last_tick.ensures b p.acts p.stage s.point.stands ∙ tick-is r.tenant.shell b p s.point)
