use Rattle.std.proofs.Common.{◌≡◌, ◌≤◌, ◌∙◌, sym, ap, arith}
use Rattle.std.specs.Int.{w64}
use Rattle.std.specs.Prelude.{pos, ◌<ℤ◌, unsigned_abs}
use Rattle.std.proofs.lemmas.Int.{ints, to_z-of_z}
use Rattle.vl_base.proofs.Parts.{placed-before}
use Rattle.cell_eval.proofs.placing.place_in.Goals as goal

pub returns-else-places-from-clause-value : goal.returns-else-places-from-clause-value
returns-else-places-from-clause-value c =
    let below : c.args.low <ℤ pos 0 = grind (arith, ints, to_z-of_z) in
    let size : unsigned_abs c.args.low ≡ c.unsigned_abs-places.result
    = sym (c.unsigned_abs-places.ensures.value ∙ ap unsigned_abs (to_z-of_z w64 c.args.low c.ranges.low)) in
    let past : c.args.part.width ≤ unsigned_abs c.args.low = omega (arith, size) in
    placed-before c.args.base.width c.args.base.value c.args.low c.args.part.width c.args.part.value c.args.base.fits c.args.part.fits below past
