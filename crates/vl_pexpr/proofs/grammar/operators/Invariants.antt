use Rattle.std.proofs.Common.{ℕ, ◌<◌, ◌≤◌, length}
use Rattle.vl_tree.specs.Expressions as spec
use Rattle.vl_tree.specs.MarksOfGrammar.{unary_operator}
use Rattle.vl_tree.specs.Reading.{pure}
use Rattle.vl_tree.proofs.Passing.{GoesOn}
use Rattle.vl_pexpr.proofs.grammar.operators.Given as goal

abbrev pub invariant-each : goal.invariant-each
invariant-each l = record {
  reads : (n : ℕ) → length l.fn.tokens < n → GoesOn unary_operator (λ o. pure o) l.operators l.rest (spec.operators n l.fn.tokens);
  no_longer : length l.rest ≤ length l.fn.tokens;
}

abbrev pub decreases-each : goal.decreases-each
decreases-each l = length l.rest
