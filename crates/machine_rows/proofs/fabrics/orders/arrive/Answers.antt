use Rattle.std.proofs.Common.{sym, ◌∙◌}
use Rattle.machine_rows.proofs.Ends.{none-of}
use Rattle.machine_rows.proofs.fabrics.orders.arrive.Goals as goal

pub comes-requires-clause-parcel : goal.comes-requires-clause-parcel
comes-requires-clause-parcel c =
    let q = c.args.parcel in
    let told = c.points_tell_of_tenants.ensures in
    let none = sym c.if-is_some.ensures in
    let p = c.tenants_at_rest_have_points.ensures q c.requires.parcel (c.ended.ensures.tenant none) in
    let b = told.boundary q p.0 p.1 in
    (p.0, p.1, told.ended q p.0 b.0 p.1 b.1 ∙ (sym (c.ended.ensures.reason b.0 b.1) ∙ none-of c.ended.result none))
