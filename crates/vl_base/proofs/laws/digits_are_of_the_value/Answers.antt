use Rattle.std.proofs.Common.{arith}
use Rattle.vl_base.proofs.Digits.{digits-number}
use Rattle.vl_base.proofs.laws.digits_are_of_the_value.Goals as goal

pub returns-clause-binary : goal.returns-clause-binary
returns-clause-binary c = digits-number 1 c.args.a.width c.args.a.value (omega arith) c.args.a.fits

pub returns-clause-octal : goal.returns-clause-octal
returns-clause-octal c = digits-number 3 c.args.a.width c.args.a.value (omega arith) c.args.a.fits

pub returns-clause-hexadecimal : goal.returns-clause-hexadecimal
returns-clause-hexadecimal c = digits-number 4 c.args.a.width c.args.a.value (omega arith) c.args.a.fits

pub returns-clause-bytes : goal.returns-clause-bytes
returns-clause-bytes c = digits-number 8 c.args.a.width c.args.a.value (omega arith) c.args.a.fits
