use Rattle.std.proofs.Common.{codes, arith}
use Rattle.vl_tree.specs.Reading.{mark}
use Rattle.vl_tree.specs.Parsing.{index, indices}
use Rattle.vl_pstmt.proofs.Passing.{passed, with_counted_none, counted_turn, counted_end, counted_fails, counted_full}
use Rattle.vl_pstmt.proofs.reader.Reader.indices.Goals as goal

pub each-init : goal.each-init
unfolding indices
each-init c = record {
  reads = (c.args.self.now.depth, omega (arith, c.requires), rw c.new-selects.ensures (with_counted_none _));
  no_longer = omega arith;
}

pub returns-then-count-ge-MOST_TOKENS-clause-reads : goal.returns-then-count-ge-MOST_TOKENS-clause-reads
returns-then-count-ge-MOST_TOKENS-clause-reads c = counted_full (mark (codes "[")) (index c.args.self.now.depth) _ _ _ _ _ _ c.in-Some.ensures.value (omega (arith, c.if-count-ge-MOST_TOKENS.true)) c.each.invariant.reads

pub returns-in_err-select-clause-reads : goal.returns-in_err-select-clause-reads
returns-in_err-select-clause-reads c = passed _ _ _ c.from_residual.ensures.1
    (counted_fails (mark (codes "[")) (index c.args.self.now.depth) _ _ _ _ _ _ _ c.in-Some.ensures.value (omega (arith, c.if-count-ge-MOST_TOKENS.false)) c.in_err-select.ensures.reads c.each.invariant.reads)

pub each-preserved : goal.each-preserved
each-preserved c = record {
  reads = rw c.in_ok-push.ensures.ok (counted_turn (mark (codes "[")) (index c.args.self.now.depth) _ _ _ _ _ _ _ _ _ c.in-Some.ensures.value (omega (arith, c.if-count-ge-MOST_TOKENS.false)) c.in_ok-select.ensures.reads (omega (arith, c.in-Some.ensures.shorter, c.in_ok-select.ensures.shorter)) c.each.invariant.reads);
  no_longer = omega (arith, c.in-Some.ensures.shorter, c.in_ok-select.ensures.shorter, c.each.invariant.no_longer);
}

pub returns-clause-reads : goal.returns-clause-reads
returns-clause-reads c = counted_end (mark (codes "[")) (index c.args.self.now.depth) _ _ _ _ c.in_default.ensures.value c.each.invariant.reads
