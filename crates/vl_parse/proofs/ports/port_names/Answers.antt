use Rattle.std.proofs.Common.{arith, refl}
use Rattle.vl_pstmt.proofs.Passing.{passed}
use Rattle.vl_parse.proofs.PortNames.{names_turn, names_end, names_fail}
use Rattle.vl_parse.proofs.ports.port_names.Goals as goal

pub each-init : goal.each-init
each-init c = record {
  reads = (c.args.reader.depth, omega arith, refl);
  no_longer = omega arith;
}

pub returns-in_err-grown-clause-reads : goal.returns-in_err-grown-clause-reads
returns-in_err-grown-clause-reads c = passed _ _ _ c.from_residual.ensures.1
    (names_fail c.args.reader.depth _ _ _ _ _ _ c.in-Some.ensures.value c.in_err-grown.ensures.reads c.each.invariant.reads)

pub each-preserved : goal.each-preserved
each-preserved c = record {
  reads = names_turn c.args.reader.depth _ _ _ _ _ _ _ c.in-Some.ensures.value c.in_ok-grown.ensures.reads (omega (arith, c.in-Some.ensures.shorter, c.in_ok-grown.ensures.shorter)) c.each.invariant.reads;
  no_longer = omega (arith, c.in-Some.ensures.shorter, c.in_ok-grown.ensures.shorter);
}

pub returns-clause-reads : goal.returns-clause-reads
returns-clause-reads c = names_end c.args.reader.depth _ _ _ c.in_default.ensures.value c.each.invariant.reads
