use Rattle.std.proofs.Common.{rules, ◌≡◌, sym, ap, ◌∙◌, arith, w64}
use Rattle.std.proofs.Math.Facts.{to_z-of_z}
use Rattle.vl_base.specs.Selects as s
use Rattle.vl_base.specs.Value as a
use Rattle.vl_design.specs.Value as v
use Rattle.vl_bits.specs.Constants.{near}
use Rattle.vl_bits.proofs.Places.{picked_near}
use Rattle.vl_bits.proofs.values.picked.Goals as goal

pub returns-clause-value : goal.returns-clause-value
returns-clause-value c =
    let low = c.lowest_place-low.result in
    let e = c.lowest_place-low.ensures ∙ ap (λ z. near (v.lowest_bit c.args.from z)) c.whole_number.ensures in
    c.pick.ensures.value
    ∙ ap (λ z. s.picked c.args.base.width c.args.base.value z c.args.width) (to_z-of_z {w = w64} {z = low} (search rules) ∙ e)
    ∙ picked_near c.args.base.width c.args.base.value (v.lowest_bit c.args.from (a.reading c.args.signed c.args.index.width c.args.index.value)) c.args.width c.args.base.narrow c.requires.narrow
