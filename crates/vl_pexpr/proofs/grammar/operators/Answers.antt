use Rattle.std.proofs.Common.{arith, refl}
use Rattle.vl_tree.specs.Expressions.{operators}
use Rattle.vl_tree.specs.MarksOfGrammar.{unary_operator}
use Rattle.vl_tree.specs.Reading.{pure}
use Rattle.vl_tree.proofs.Passing.{with_front_none, many_turn, many_end}
use Rattle.vl_pexpr.proofs.grammar.operators.Goals as goal

pub each-init : goal.each-init
unfolding operators
each-init c = record {
  reads = λ n h. (n, h, rw c.new-operators.ensures (with_front_none _));
  no_longer = omega arith;
}

pub each-preserved : goal.each-preserved
each-preserved c = record {
  reads = λ n h. rw c.in_ok-push.ensures.ok (many_turn unary_operator (λ o. pure o) _ _ _ _ _ _ _ c.in-Some.ensures.value refl c.in-Some.ensures.shorter (c.each.invariant.reads n h));
  no_longer = omega (arith, c.in-Some.ensures.shorter);
}

pub returns-clause-reads : goal.returns-clause-reads
returns-clause-reads c n h = many_end unary_operator (λ o. pure o) _ _ _ c.in_default.ensures.value (c.each.invariant.reads n h)
