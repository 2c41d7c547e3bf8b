use Rattle.vl_base.proofs.ShiftLaws.{left-is, right-is, right-by-sign-is}
use Rattle.vl_base.proofs.laws.shifts_multiply_and_divide.Goals as goal

pub returns-clause-left : goal.returns-clause-left
returns-clause-left c = left-is c.args.a.width c.args.a.value c.args.amount

pub returns-clause-right : goal.returns-clause-right
returns-clause-right c = right-is c.args.a.width c.args.a.value c.args.amount c.args.a.fits

pub returns-clause-by_sign : goal.returns-clause-by_sign
returns-clause-by_sign c = right-by-sign-is c.args.a.width c.args.a.value c.args.amount c.args.a.fits
