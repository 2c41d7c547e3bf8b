use Rattle.std.proofs.Common.{◌≤◌, length}
use Rattle.vl_tree.specs.Expressions as spec
use Rattle.vl_tree.specs.MarksOfGrammar.{binary_operator}
use Rattle.vl_tree.specs.Reading.{◌>>=◌, pure}
use Rattle.vl_tree.specs.Grammar.{link_of}
use Rattle.vl_tree.proofs.Passing.{GoesOn}
use Rattle.vl_pexpr.proofs.grammar.Grammar.links.Given as goal

abbrev pub invariant-each : goal.invariant-each
invariant-each g l = record {
  reads : GoesOn binary_operator (λ o. spec.unary (spec.expr l.self.depth) l.self.depth >>= λ f. pure (link_of o f)) l.links l.rest (spec.links (spec.expr l.self.depth) l.self.depth l.fn.tokens);
  no_longer : length l.rest ≤ length l.fn.tokens;
}

abbrev pub decreases-each : goal.decreases-each
decreases-each g l = length l.rest
