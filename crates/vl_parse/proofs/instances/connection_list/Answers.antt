use Rattle.std.proofs.Common.{codes, arith}
use Rattle.vl_tree.specs.Reading.{mark}
use Rattle.vl_tree.specs.Parsing as spec
use Rattle.vl_pstmt.proofs.Passing.{passed, many_turn, many_end, many_fails}
use Rattle.vl_parse.proofs.Lists.{list_opens, list_fails}
use Rattle.vl_parse.proofs.instances.connection_list.Goals as goal

pub returns-in_err-first-clause-reads : goal.returns-in_err-first-clause-reads
returns-in_err-first-clause-reads c = passed _ _ _ c.from_residual.ensures.1 (list_fails (spec.connection (spec.whole c.args.reader.depth) (spec.target c.args.reader.depth) c.args.reader.depth c.args.empty) _ _ _ c.in_err-first.ensures.reads)

pub each-init : goal.each-init
each-init c = record {
  reads = rw (c.in_ok-push.ensures.ok, c.new-connections.ensures) (list_opens (spec.connection (spec.whole c.args.reader.depth) (spec.target c.args.reader.depth) c.args.reader.depth c.args.empty) _ _ _ _ c.in_ok-first.ensures.reads (omega (arith, c.in_ok-first.ensures.no_longer)));
  no_longer = c.in_ok-first.ensures.no_longer;
}

pub returns-in_err-another-clause-reads : goal.returns-in_err-another-clause-reads
returns-in_err-another-clause-reads c = passed _ _ _ c.from_residual-in_err-another.ensures.1
    (many_fails (mark (codes ",")) (λ _. spec.connection (spec.whole c.args.reader.depth) (spec.target c.args.reader.depth) c.args.reader.depth c.args.empty) _ _ _ _ _ _ c.in-Some.ensures.value c.in_err-another.ensures.reads c.each.invariant.reads)

pub each-preserved : goal.each-preserved
each-preserved c = record {
  reads = rw c.in_ok-push-2.ensures.ok (many_turn (mark (codes ",")) (λ _. spec.connection (spec.whole c.args.reader.depth) (spec.target c.args.reader.depth) c.args.reader.depth c.args.empty) _ _ _ _ _ _ _ c.in-Some.ensures.value c.in_ok-another.ensures.reads (omega (arith, c.in-Some.ensures.shorter, c.in_ok-another.ensures.no_longer)) c.each.invariant.reads);
  no_longer = omega (arith, c.in-Some.ensures.shorter, c.in_ok-another.ensures.no_longer);
}

pub returns-clause-reads : goal.returns-clause-reads
returns-clause-reads c = many_end (mark (codes ",")) (λ _. spec.connection (spec.whole c.args.reader.depth) (spec.target c.args.reader.depth) c.args.reader.depth c.args.empty) _ _ _ c.in_default.ensures.value c.each.invariant.reads
