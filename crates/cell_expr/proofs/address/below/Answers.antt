use Rattle.std.proofs.Common.{arith, false}
use Rattle.std.specs.Prelude.{int_lt}
use Rattle.vl_base.specs.Value.{truth, reading}
use Rattle.cell_emit.specs.cell_form.specs.Views.{list_of}
use Rattle.cell_emit.proofs.Newest.{ok-gives}
use Rattle.cell_expr.proofs.Addressing.{by-number, below-is}
use Rattle.cell_expr.proofs.address.below.Goals as goal

pub returns-clause-gives : goal.returns-clause-gives
returns-clause-gives c =
    let l0 = list_of c.args.cells.now in
    let l1 = list_of c.constant.new.cells in
    let l2 = list_of c.binary.new.cells in
    let n = c.from.result in
    let e = c.from.ensures in
    let fits = c.ranges.count.fits in
    ok-gives c.binary.result _ _
    (λ r g. below-is l0 l2 c.args.slot r n c.args.count e (omega (arith, e, fits))
    (by-number l0 l1 l2 c.args.slot c.in_ok-end.end r n (λ w. 1) (λ w x y. truth (int_lt (reading false w x) (reading false w y))) c.requires.slot c.in_ok-end.ensures.gives g))
    c.binary.ensures.gives
