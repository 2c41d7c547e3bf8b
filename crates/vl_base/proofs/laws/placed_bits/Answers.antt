use Rattle.vl_base.proofs.BitLaws.{placed-below-it, placed-inside-it, placed-above-it}
use Rattle.vl_base.proofs.laws.placed_bits.Goals as goal

pub returns-clause-below : goal.returns-clause-below
returns-clause-below c =
    placed-below-it c.args.a.width c.args.a.value c.args.low c.args.part.width c.args.part.value c.args.i c.requires

pub returns-clause-inside : goal.returns-clause-inside
returns-clause-inside c =
    placed-inside-it c.args.a.width c.args.a.value c.args.low c.args.part.width c.args.part.value c.args.i c.requires

pub returns-clause-above : goal.returns-clause-above
returns-clause-above c =
    placed-above-it c.args.a.width c.args.a.value c.args.low c.args.part.width c.args.part.value c.args.i c.args.part.fits c.requires
