use Rattle.std.proofs.Common.{◌≤◌, length, [], ◌∷◌, codes}
use Rattle.vl_tree.specs.Reading.{mark}
use Rattle.vl_tree.specs.Parsers.{many, with_front}
use Rattle.vl_tree.specs.Parsing.{whole}
use Rattle.vl_pstmt.proofs.Passing.{GoesOn}
use Rattle.vl_pstmt.proofs.reader.Reader.more_expressions.Given as goal

abbrev pub invariant-each : goal.invariant-each
invariant-each l = record {
  reads : GoesOn (mark (codes ",")) (λ _. whole l.self.depth) l.expressions l.rest (with_front (l.fn.first ∷ []) (many (mark (codes ",")) (λ _. whole l.self.depth) l.self.depth l.fn.tokens));
  no_longer : length l.rest ≤ length l.fn.tokens;
}

abbrev pub decreases-each : goal.decreases-each
decreases-each l = length l.rest
