use Rattle.std.proofs.Common.{rules, ◌≡◌, sym, ap, ◌∙◌, arith, w64}
use Rattle.std.proofs.Math.Facts.{to_z-of_z}
use Rattle.vl_bits.specs.Masks.{has}
use Rattle.vl_bits.proofs.Ranges.{mask_has, none_has}
use Rattle.vl_bits.proofs.widths.range.Goals as goal

pub returns-then-first-end : goal.returns-then-first-end
returns-then-first-end c i =
    let e = to_z-of_z {w = w64} {z = c.args.low} (search rules) in
    ap (λ x. has x i) c.between.ensures
    ∙ mask_has c.args.width c.args.count c.start-first.result c.behind-end.result i c.args.low c.if-first-end.true (rw e at c.start-first.ensures.least) (rw e at c.start-first.ensures.same)
    c.behind-end.ensures.within (rw e at c.behind-end.ensures.reach) (rw e at c.behind-end.ensures.same)

pub returns-else-first-end : goal.returns-else-first-end
returns-else-first-end c i =
    let e = to_z-of_z {w = w64} {z = c.args.low} (search rules) in
    none_has c.args.width c.args.count c.start-first.result c.behind-end.result i c.args.low c.if-first-end.false (rw e at c.start-first.ensures.same) (rw e at c.behind-end.ensures.same)
