use Rattle.vl_loops.proofs.Widen.{longer-fits}
use Rattle.vl_loops.proofs.values.widened.Goals as goal

pub invariant_of-result-clause-fits : goal.invariant_of-result-clause-fits
invariant_of-result-clause-fits c = longer-fits c.args.a.value c.args.a.width c.args.width c.args.a.fits c.requires.wide
