use Rattle.std.proofs.Common.{codes, arith}
use Rattle.vl_tree.specs.Expressions as spec
use Rattle.vl_tree.specs.Reading.{mark}
use Rattle.vl_tree.proofs.Passing.{passed, many_turn, many_end, many_fails}
use Rattle.vl_pexpr.proofs.grammar.Grammar.more_arguments.Goals as goal

pub returns-in_err-argument-clause-reads : goal.returns-in_err-argument-clause-reads
returns-in_err-argument-clause-reads g c = passed _ _ _ c.from_residual-in_err-argument.ensures.1
    (many_fails (mark (codes ",")) (λ _. spec.argument (spec.expr c.args.self.now.depth) c.args.self.now.depth) _ _ _ _ _ _ c.in-Some.ensures.value c.in_err-argument.ensures.reads c.each.invariant.reads)

pub each-preserved : goal.each-preserved
each-preserved g c = record {
  reads = rw c.in_ok-push-2.ensures.ok (many_turn (mark (codes ",")) (λ _. spec.argument (spec.expr c.args.self.now.depth) c.args.self.now.depth) _ _ _ _ _ _ _ c.in-Some.ensures.value c.in_ok-argument.ensures.reads (omega (arith, c.in-Some.ensures.shorter, c.in_ok-argument.ensures.no_longer)) c.each.invariant.reads);
  no_longer = omega (arith, c.in-Some.ensures.shorter, c.in_ok-argument.ensures.no_longer);
}

pub returns-clause-reads : goal.returns-clause-reads
returns-clause-reads g c = many_end (mark (codes ",")) (λ _. spec.argument (spec.expr c.args.self.now.depth) c.args.self.now.depth) _ _ _ c.in_default.ensures.value c.each.invariant.reads
