use Rattle.std.proofs.Common.{◌≤◌, length}
use Rattle.vl_tree.specs.Parsers.{many}
use Rattle.vl_tree.specs.Parsing as spec
use Rattle.vl_pstmt.proofs.Passing.{GoesOn}
use Rattle.vl_parse.proofs.functions.declarations.Given as goal

abbrev pub invariant-each : goal.invariant-each
invariant-each l = record {
  reads : GoesOn (spec.declaration_by (spec.whole l.reader.depth) (spec.target l.reader.depth) l.reader.depth) (λ q. q) l.declarations l.rest (many (spec.declaration_by (spec.whole l.reader.depth) (spec.target l.reader.depth) l.reader.depth) (λ q. q) l.reader.depth l.fn.tokens);
  no_longer : length l.rest ≤ length l.fn.tokens;
}

abbrev pub decreases-each : goal.decreases-each
decreases-each l = length l.rest
