use Rattle.std.proofs.Common.{◌≤◌, length, codes}
use Rattle.vl_tree.specs.Expressions as spec
use Rattle.vl_tree.specs.Reading.{mark}
use Rattle.vl_tree.proofs.Passing.{GoesOn}
use Rattle.vl_pexpr.proofs.grammar.Grammar.selects.Given as goal

abbrev pub invariant-each : goal.invariant-each
invariant-each g l = record {
  reads : GoesOn (mark (codes "[")) (spec.select (spec.expr l.self.depth) l.self.depth) l.selects l.rest (spec.selects (spec.expr l.self.depth) l.self.depth l.fn.tokens);
  no_longer : length l.rest ≤ length l.fn.tokens;
}

abbrev pub decreases-each : goal.decreases-each
decreases-each g l = length l.rest
