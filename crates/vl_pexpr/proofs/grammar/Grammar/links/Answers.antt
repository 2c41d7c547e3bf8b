use Rattle.std.proofs.Common.{arith, refl}
use Rattle.vl_tree.specs.Expressions as spec
use Rattle.vl_tree.specs.Expressions.{links}
use Rattle.vl_tree.specs.MarksOfGrammar.{binary_operator}
use Rattle.vl_tree.specs.Reading.{◌>>=◌, pure}
use Rattle.vl_tree.specs.Grammar.{link_of}
use Rattle.vl_tree.proofs.Passing.{passed, fails_on, with_front_none, many_turn, many_end, many_fails}
use Rattle.vl_pexpr.proofs.grammar.Grammar.links.Goals as goal

pub each-init : goal.each-init
unfolding links
each-init g c = record {
  reads = (c.args.self.now.depth, c.requires.room, rw c.new-links.ensures (with_front_none _));
  no_longer = omega arith;
}

pub returns-in_err-operand-clause-reads : goal.returns-in_err-operand-clause-reads
returns-in_err-operand-clause-reads g c = passed _ _ _ c.from_residual.ensures.1
    (many_fails binary_operator (λ o. spec.unary (spec.expr c.args.self.now.depth) c.args.self.now.depth >>= λ f. pure (link_of o f)) _ _ _ _ _ _ c.in-Some.ensures.value (fails_on _ _ _ c.in_err-operand.ensures.reads) c.each.invariant.reads)

pub each-preserved : goal.each-preserved
each-preserved g c = record {
  reads = rw c.in_ok-push.ensures.ok (many_turn binary_operator (λ o. spec.unary (spec.expr c.args.self.now.depth) c.args.self.now.depth >>= λ f. pure (link_of o f)) _ _ _ _ _ _ _ c.in-Some.ensures.value (rw c.in_ok-operand.ensures.reads refl) (omega (arith, c.in-Some.ensures.shorter, c.in_ok-operand.ensures.shorter)) c.each.invariant.reads);
  no_longer = omega (arith, c.in-Some.ensures.shorter, c.in_ok-operand.ensures.shorter);
}

pub returns-clause-reads : goal.returns-clause-reads
returns-clause-reads g c = many_end binary_operator (λ o. spec.unary (spec.expr c.args.self.now.depth) c.args.self.now.depth >>= λ f. pure (link_of o f)) _ _ _ c.in_default.ensures.value c.each.invariant.reads
