use Rattle.std.proofs.Common.{◌<◌, ◌^◌}
use Rattle.std.proofs.lemmas.Nat.{or_lt}
use Rattle.vl_base.proofs.logic.either.Goals as goal

pub invariant_of-result-clause-fits : goal.invariant_of-result-clause-fits
invariant_of-result-clause-fits c =
    let b : c.args.b.value < 2 ^ c.args.a.width = rw c.requires c.args.b.fits in
    or_lt c.args.a.width c.args.a.value c.args.b.value c.args.a.fits b
