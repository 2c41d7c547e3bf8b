use Rattle.std.proofs.Common.{◌≤◌, length, [], ◌∷◌, codes}
use Rattle.vl_tree.specs.Reading.{keyword}
use Rattle.vl_tree.specs.Parsers.{with_front, many}
use Rattle.vl_tree.specs.Parsing as spec
use Rattle.vl_pstmt.proofs.Passing.{GoesOn}
use Rattle.vl_parse.proofs.modules.more_modules.Given as goal

abbrev pub invariant-each : goal.invariant-each
invariant-each l = record {
  reads : GoesOn (keyword (codes "module")) (spec.definition (spec.whole l.reader.depth) (spec.target l.reader.depth) l.reader.depth (spec.outer l.reader.depth)) l.modules l.rest (with_front (l.fn.first ∷ []) (many (keyword (codes "module")) (spec.definition (spec.whole l.reader.depth) (spec.target l.reader.depth) l.reader.depth (spec.outer l.reader.depth)) l.reader.depth l.fn.tokens));
  no_longer : length l.rest ≤ length l.fn.tokens;
}

abbrev pub decreases-each : goal.decreases-each
decreases-each l = length l.rest
