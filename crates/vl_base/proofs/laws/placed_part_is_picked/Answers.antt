use Rattle.vl_base.proofs.BitLaws.{part-is-there}
use Rattle.vl_base.proofs.Bounds.{placed-below}
use Rattle.vl_base.proofs.laws.placed_part_is_picked.Goals as goal

pub returns : goal.returns
returns c =
    part-is-there c.args.a.width c.args.a.value c.args.low c.args.part.width c.args.part.value c.args.part.fits
    (placed-below c.args.a.width c.args.a.value c.args.low c.args.part.width c.args.part.value) c.requires.low c.requires.high
