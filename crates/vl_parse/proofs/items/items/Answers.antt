use Rattle.std.proofs.Common.{arith}
use Rattle.vl_tree.specs.Parsing as spec
use Rattle.vl_pstmt.proofs.Passing.{passed, with_front_none}
use Rattle.vl_parse.proofs.Lists.{turn, end, fail}
use Rattle.vl_parse.proofs.items.items.Goals as goal

pub each-init : goal.each-init
each-init c = record {
  reads = (c.args.reader.depth, omega arith, rw c.new-items.ensures (with_front_none _));
  no_longer = omega arith;
}

pub returns-in_err-found-clause-reads : goal.returns-in_err-found-clause-reads
returns-in_err-found-clause-reads c = passed _ _ _ c.from_residual.ensures.1 (fail (spec.item_by (spec.whole c.args.reader.depth) (spec.target c.args.reader.depth) c.args.reader.depth (spec.outer c.args.reader.depth)) (λ q. q) _ _ _ _ c.in_err-found.ensures.reads c.each.invariant.reads)

pub each-preserved : goal.each-preserved
each-preserved c = record {
  reads = rw c.in_ok-push.ensures.ok (turn (spec.item_by (spec.whole c.args.reader.depth) (spec.target c.args.reader.depth) c.args.reader.depth (spec.outer c.args.reader.depth)) (λ q. q) _ _ _ _ _ (rw c.in-Some.is at c.in_ok-found.ensures.reads) (rw c.in-Some.is at c.in_ok-found.ensures.shorter) c.each.invariant.reads);
  no_longer = omega (arith, c.in_ok-found.ensures.no_longer);
}

pub returns-in_default-clause-reads : goal.returns-in_default-clause-reads
returns-in_default-clause-reads c = end (spec.item_by (spec.whole c.args.reader.depth) (spec.target c.args.reader.depth) c.args.reader.depth (spec.outer c.args.reader.depth)) (λ q. q) _ _ _ _ (rw c.in_default.is at c.in_ok-found.ensures.reads) c.each.invariant.reads
