use Rattle.std.proofs.Common.{◌∙◌, ◌+◌, ◌%◌, ◌^◌, ◌<◌, sym, ap, rules, arith, w64, to_z}
use Rattle.std.specs.Int.RustNames.{unsigned_abs}
use Rattle.std.proofs.lemmas.Int.{to_z-of_z}
use Rattle.std.specs.Prelude.{pos, ◌-ℤ◌, int_lt}
use Rattle.vl_base.specs.Value.{wrapped}
use Rattle.cell_emit.specs.cell_form.specs.Views.{list_of}
use Rattle.cell_emit.proofs.Newest.{ok-gives}
use Rattle.cell_expr.proofs.Addressing.{by-number, moved-none, moved-up, moved-down, negative-is, positive-is}
use Rattle.cell_expr.proofs.address.moved.Goals as goal

pub returns-then-lowest-eq0-clause-gives : goal.returns-then-lowest-eq0-clause-gives
returns-then-lowest-eq0-clause-gives c = moved-none (list_of c.args.cells.now) c.args.slot c.args.lowest (sym (to_z-of_z w64 c.args.lowest (search rules)) ∙ ap (to_z w64) c.if-lowest-eq0.true) c.requires.slot

pub returns-then-lowest-lt0-clause-gives : goal.returns-then-lowest-lt0-clause-gives
returns-then-lowest-lt0-clause-gives c =
    let l0 = list_of c.args.cells.now in
    let l1 = list_of c.constant.new.cells in
    let l2 = list_of c.binary.new.cells in
    let n = c.from.result in
    let plain = to_z-of_z w64 c.args.lowest (search rules) in
    let e = c.from.ensures ∙ c.unsigned_abs.ensures.value ∙ ap unsigned_abs plain in
    let same = c.from.ensures in
    let bound = c.unsigned_abs.ensures.bound in
    let small : n < 2 ^ 128 = omega (arith, same, bound) in
    ok-gives c.binary.result _ _
    (λ r g. moved-up l0 l2 c.args.slot r n c.args.lowest small (negative-is c.args.lowest n (ap (λ y. int_lt y (pos 0)) (sym plain) ∙ c.if-lowest-lt0.true) e)
    (by-number l0 l1 l2 c.args.slot c.in_ok-far.far r n (λ w. w) (λ w x y. (x + y) % 2 ^ w) c.requires.slot c.in_ok-far.ensures.gives g))
    c.binary.ensures.gives

pub returns-else-lowest-lt0-clause-gives : goal.returns-else-lowest-lt0-clause-gives
returns-else-lowest-lt0-clause-gives c =
    let l0 = list_of c.args.cells.now in
    let l1 = list_of c.constant.new.cells in
    let l2 = list_of c.binary-else-lowest-lt0.new.cells in
    let n = c.from.result in
    let plain = to_z-of_z w64 c.args.lowest (search rules) in
    let e = c.from.ensures ∙ c.unsigned_abs.ensures.value ∙ ap unsigned_abs plain in
    let same = c.from.ensures in
    let bound = c.unsigned_abs.ensures.bound in
    let small : n < 2 ^ 128 = omega (arith, same, bound) in
    ok-gives c.binary-else-lowest-lt0.result _ _
    (λ r g. moved-down l0 l2 c.args.slot r n c.args.lowest small (positive-is c.args.lowest n (ap (λ y. int_lt y (pos 0)) (sym plain) ∙ c.if-lowest-lt0.false) e)
    (by-number l0 l1 l2 c.args.slot c.in_ok-far.far r n (λ w. w) (λ w x y. wrapped w (pos x -ℤ pos y)) c.requires.slot c.in_ok-far.ensures.gives g))
    c.binary-else-lowest-lt0.ensures.gives
