use Rattle.std.proofs.Common.{codes, arith}
use Rattle.vl_tree.specs.Expressions as spec
use Rattle.vl_tree.specs.Expressions.{selects}
use Rattle.vl_tree.specs.Reading.{mark}
use Rattle.vl_tree.proofs.Passing.{passed, with_front_none, many_turn, many_end, many_fails}
use Rattle.vl_pexpr.proofs.grammar.Grammar.selects.Goals as goal

pub each-init : goal.each-init
unfolding selects
each-init g c = record {
  reads = (c.args.self.now.depth, omega arith, rw c.new-selects.ensures (with_front_none _));
  no_longer = omega arith;
}

pub returns-in_err-select-clause-reads : goal.returns-in_err-select-clause-reads
returns-in_err-select-clause-reads g c = passed _ _ _ c.from_residual.ensures.1
    (many_fails (mark (codes "[")) (spec.select (spec.expr c.args.self.now.depth) c.args.self.now.depth) _ _ _ _ _ _ c.in-Some.ensures.value c.in_err-select.ensures.reads c.each.invariant.reads)

pub each-preserved : goal.each-preserved
each-preserved g c = record {
  reads = rw c.in_ok-push.ensures.ok (many_turn (mark (codes "[")) (spec.select (spec.expr c.args.self.now.depth) c.args.self.now.depth) _ _ _ _ _ _ _ c.in-Some.ensures.value c.in_ok-select.ensures.reads (omega (arith, c.in-Some.ensures.shorter, c.in_ok-select.ensures.shorter)) c.each.invariant.reads);
  no_longer = omega (arith, c.in-Some.ensures.shorter, c.in_ok-select.ensures.shorter);
}

pub returns-clause-reads : goal.returns-clause-reads
returns-clause-reads g c = many_end (mark (codes "[")) (spec.select (spec.expr c.args.self.now.depth) c.args.self.now.depth) _ _ _ c.in_default.ensures.value c.each.invariant.reads
