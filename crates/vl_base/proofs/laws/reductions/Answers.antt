use Rattle.vl_base.proofs.BitLaws.{all-set, some-set}
use Rattle.vl_base.proofs.Parities.{parity-ones}
use Rattle.vl_base.proofs.laws.reductions.Goals as goal

pub returns-clause-all : goal.returns-clause-all
returns-clause-all c = all-set c.args.a.width c.args.a.value c.args.a.fits

pub returns-clause-some : goal.returns-clause-some
returns-clause-some c = some-set c.args.a.width c.args.a.value c.args.a.narrow c.args.a.fits

pub returns-clause-odd : goal.returns-clause-odd
returns-clause-odd c = parity-ones c.args.a.width c.args.a.value c.args.a.fits
