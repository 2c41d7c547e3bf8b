use Rattle.std.proofs.Common.{◌≡◌, ◌+◌, ◌-◌, ◌^◌, ◌<◌, arith}
use Rattle.std.proofs.lemmas.Nat.{shr_below}
use Rattle.cell_eval.proofs.placing.upper.Goals as goal

pub invariant_of-result-clause-fits : goal.invariant_of-result-clause-fits
invariant_of-result-clause-fits c =
    let k : c.args.value.width ≡ (c.args.value.width - c.args.places) + c.args.places = omega arith in
    let below : c.args.value.value < 2 ^ ((c.args.value.width - c.args.places) + c.args.places) = rw (← k) c.args.value.fits in
    shr_below c.args.value.value (c.args.value.width - c.args.places) c.args.places below
