use Rattle.std.proofs.Common.{◌≤◌, length, [], ◌∷◌, codes}
use Rattle.vl_tree.specs.Expressions as spec
use Rattle.vl_tree.specs.Reading.{mark, with_front}
use Rattle.vl_tree.proofs.Passing.{GoesOn}
use Rattle.vl_tree.specs.Reading.{many}
use Rattle.vl_pexpr.proofs.grammar.Grammar.more_arguments.Given as goal

abbrev pub invariant-each : goal.invariant-each
invariant-each g l = record {
  reads : GoesOn (mark (codes ",")) (λ _. spec.argument (spec.expr l.self.depth) l.self.depth) l.arguments l.rest (with_front (l.fn.first ∷ []) (many (mark (codes ",")) (λ _. spec.argument (spec.expr l.self.depth) l.self.depth) l.self.depth l.fn.tokens));
  no_longer : length l.rest ≤ length l.fn.tokens;
}

abbrev pub decreases-each : goal.decreases-each
decreases-each g l = length l.rest
