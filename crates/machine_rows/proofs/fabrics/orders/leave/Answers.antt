use Rattle.std.proofs.Common.{sym, ◌∙◌}
use Rattle.fab_model.specs.Points.{departed}
use Rattle.machine_rows.proofs.fabrics.orders.leave.Goals as goal

pub leave-requires : goal.leave-requires
leave-requires c =
    let f = c.requires.fabric in
    let h = c.requires.stands in
    let found = c.who_comes_first_is_found.ensures.leaves f.residents c.in-Some.tenant (c.each_number_stays_once.ensures.residents f h.once) (sym (c.next_leaving.ensures f h) ∙ c.in-Some.is) in
    (f, found.0, found.1, h, sym (c.is_at_rest.ensures f h) ∙ c.if-not-is_at_rest.false, found.2, found.3)

pub returns-in-Some-clause-parcel : goal.returns-in-Some-clause-parcel
returns-in-Some-clause-parcel c =
    let f = c.requires.fabric in
    let h = c.requires.stands in
    let found = c.who_comes_first_is_found.ensures.leaves f.residents c.in-Some.tenant (c.each_number_stays_once.ensures.residents f h.once) (sym (c.next_leaving.ensures f h) ∙ c.in-Some.is) in
    let out = c.leave.ensures.out f found.0 h found.2 in
    (c.points_tell_of_tenants.ensures.parcel c.leave.result.parcel (departed c.leave.result.why found.0) out.1).0
