use Rattle.std.proofs.Common.{◌≡◌, ◌+◌, ◌-◌, ◌^◌, ◌<◌, arith}
use Rattle.std.proofs.lemmas.Nat.{shr_below}
use Rattle.vl_base.proofs.select.upper.Goals as goal

pub invariant_of-result-clause-fits : goal.invariant_of-result-clause-fits
invariant_of-result-clause-fits c =
    let k : c.args.a.width ≡ (c.args.a.width - c.args.places) + c.args.places = omega arith in
    let below : c.args.a.value < 2 ^ ((c.args.a.width - c.args.places) + c.args.places) = rw (← k) c.args.a.fits in
    shr_below c.args.a.value (c.args.a.width - c.args.places) c.args.places below
