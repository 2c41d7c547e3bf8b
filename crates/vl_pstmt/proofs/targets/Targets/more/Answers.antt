use Rattle.std.proofs.Common.{codes, arith, refl}
use Rattle.vl_tree.specs.Reading.{mark}
use Rattle.vl_tree.specs.Parsing.{lvalue, more_targets}
use Rattle.vl_pstmt.proofs.Passing.{passed, counted_turn, counted_end, counted_fails, counted_full}
use Rattle.vl_pstmt.proofs.targets.Targets.more.Goals as goal

pub each-init : goal.each-init
unfolding more_targets
each-init g c = record {
  reads = (c.args.self.now.reader.depth, omega (arith, c.requires.room), rw (c.in_ok-push.ensures.ok, c.new-targets.ensures) refl);
  no_longer = omega arith;
}

pub returns-then-count-ge-MOST_TOKENS-clause-reads : goal.returns-then-count-ge-MOST_TOKENS-clause-reads
returns-then-count-ge-MOST_TOKENS-clause-reads g c = counted_full (mark (codes ",")) (λ k _. lvalue c.args.self.now.reader.depth k) _ _ _ _ _ _ c.in-Some.ensures.value (omega (arith, c.if-count-ge-MOST_TOKENS.true)) c.each.invariant.reads

pub returns-in_err-target-clause-reads : goal.returns-in_err-target-clause-reads
returns-in_err-target-clause-reads g c = passed _ _ _ c.from_residual-in_err-target.ensures.1
    (counted_fails (mark (codes ",")) (λ k _. lvalue c.args.self.now.reader.depth k) _ _ _ _ _ _ _ c.in-Some.ensures.value (omega (arith, c.if-count-ge-MOST_TOKENS.false)) c.in_err-target.ensures.reads c.each.invariant.reads)

pub each-preserved : goal.each-preserved
each-preserved g c = record {
  reads = rw c.in_ok-push-2.ensures.ok (counted_turn (mark (codes ",")) (λ k _. lvalue c.args.self.now.reader.depth k) _ _ _ _ _ _ _ _ _ c.in-Some.ensures.value (omega (arith, c.if-count-ge-MOST_TOKENS.false)) c.in_ok-target.ensures.reads (omega (arith, c.in-Some.ensures.shorter, c.in_ok-target.ensures.shorter)) c.each.invariant.reads);
  no_longer = omega (arith, c.in-Some.ensures.shorter, c.in_ok-target.ensures.shorter, c.each.invariant.no_longer);
}

pub returns-clause-reads : goal.returns-clause-reads
returns-clause-reads g c = counted_end (mark (codes ",")) (λ k _. lvalue c.args.self.now.reader.depth k) _ _ _ _ c.in_default.ensures.value c.each.invariant.reads
