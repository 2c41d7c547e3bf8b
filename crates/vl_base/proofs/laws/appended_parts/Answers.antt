use Rattle.vl_base.proofs.BitLaws.{appended-low, appended-high}
use Rattle.vl_base.proofs.laws.appended_parts.Goals as goal

pub returns-clause-low : goal.returns-clause-low
returns-clause-low c = appended-low c.args.high.value c.args.high.width c.args.low.value c.args.low.width c.args.low.fits

pub returns-clause-high : goal.returns-clause-high
returns-clause-high c =
    appended-high c.args.high.value c.args.high.width c.args.low.value c.args.low.width c.args.high.fits c.args.low.fits
