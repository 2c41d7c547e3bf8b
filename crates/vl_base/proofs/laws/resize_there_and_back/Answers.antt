use Rattle.vl_base.proofs.SumLaws.{resized-reading, there-and-back}
use Rattle.vl_base.proofs.laws.resize_there_and_back.Goals as goal

pub returns-clause-reading : goal.returns-clause-reading
returns-clause-reading c = resized-reading c.args.signed c.args.a.width c.args.width c.args.a.value c.args.a.fits c.requires

pub returns-clause-value : goal.returns-clause-value
returns-clause-value c = there-and-back c.args.signed c.args.back c.args.a.width c.args.width c.args.a.value c.args.a.fits c.requires
