use Rattle.std.proofs.Common.{codes, arith, refl}
use Rattle.vl_tree.specs.Reading.{keyword}
use Rattle.vl_tree.specs.Parsing as spec
use Rattle.vl_pstmt.proofs.Passing.{passed, many_turn, many_end, many_fails}
use Rattle.vl_parse.proofs.modules.more_modules.Goals as goal

pub each-init : goal.each-init
each-init c = record {
  reads = (c.args.reader.depth, omega arith, rw (c.in_ok-push.ensures.ok, c.new-modules.ensures) refl);
  no_longer = omega arith;
}

pub returns-in_err-module-clause-reads : goal.returns-in_err-module-clause-reads
returns-in_err-module-clause-reads c = passed _ _ _ c.from_residual-in_err-module.ensures.1
    (many_fails (keyword (codes "module")) (spec.definition (spec.whole c.args.reader.depth) (spec.target c.args.reader.depth) c.args.reader.depth (spec.outer c.args.reader.depth)) _ _ _ _ _ _ c.in-Some.ensures.value c.in_err-module.ensures.reads c.each.invariant.reads)

pub each-preserved : goal.each-preserved
each-preserved c = record {
  reads = rw c.in_ok-push-2.ensures.ok (many_turn (keyword (codes "module")) (spec.definition (spec.whole c.args.reader.depth) (spec.target c.args.reader.depth) c.args.reader.depth (spec.outer c.args.reader.depth)) _ _ _ _ _ _ _ c.in-Some.ensures.value c.in_ok-module.ensures.reads (omega (arith, c.in-Some.ensures.shorter, c.in_ok-module.ensures.shorter)) c.each.invariant.reads);
  no_longer = omega (arith, c.in-Some.ensures.shorter, c.in_ok-module.ensures.shorter);
}

pub returns-clause-reads : goal.returns-clause-reads
returns-clause-reads c = many_end (keyword (codes "module")) (spec.definition (spec.whole c.args.reader.depth) (spec.target c.args.reader.depth) c.args.reader.depth (spec.outer c.args.reader.depth)) _ _ _ c.in_default.ensures.value c.each.invariant.reads
