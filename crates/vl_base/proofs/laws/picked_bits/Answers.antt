use Rattle.vl_base.proofs.BitLaws.{picked-bit}
use Rattle.vl_base.proofs.laws.picked_bits.Goals as goal

pub returns : goal.returns
returns c = picked-bit c.args.a.width c.args.a.value c.args.low c.args.width c.args.i c.args.a.fits c.requires
