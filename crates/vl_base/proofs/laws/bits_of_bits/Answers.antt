use Rattle.std.proofs.lemmas.Nat.Bits.{bit_at_and, bit_at_or, bit_at_xor}
use Rattle.vl_base.proofs.BitLaws.{inverted-bit}
use Rattle.vl_base.proofs.laws.bits_of_bits.Goals as goal

pub returns-clause-and : goal.returns-clause-and
returns-clause-and c = bit_at_and c.args.a.value c.args.b.value c.args.i

pub returns-clause-or : goal.returns-clause-or
returns-clause-or c = bit_at_or c.args.a.value c.args.b.value c.args.i

pub returns-clause-exclusive_or : goal.returns-clause-exclusive_or
returns-clause-exclusive_or c = bit_at_xor c.args.a.value c.args.b.value c.args.i

pub returns-clause-not : goal.returns-clause-not
returns-clause-not c =
    inverted-bit c.args.a.width c.args.a.value c.args.i c.args.a.narrow c.args.a.fits c.requires.within
