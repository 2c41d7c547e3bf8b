use Rattle.std.proofs.Common.{◌<◌, length, codes}
use Rattle.vl_tree.specs.Reading.{mark}
use Rattle.vl_tree.specs.Parsers.{list}
use Rattle.vl_tree.specs.Parsing as spec
use Rattle.vl_pstmt.proofs.Passing.{GoesOn}
use Rattle.vl_parse.proofs.items.assignments.Given as goal

abbrev pub invariant-each : goal.invariant-each
invariant-each l = record {
  reads : GoesOn (mark (codes ",")) (λ _. spec.assignment (spec.whole l.reader.depth) (spec.target l.reader.depth) l.reader.depth) l.assignments l.rest (list (spec.assignment (spec.whole l.reader.depth) (spec.target l.reader.depth) l.reader.depth) l.reader.depth l.fn.tokens);
  shorter : length l.rest < length l.fn.tokens;
}

abbrev pub decreases-each : goal.decreases-each
decreases-each l = length l.rest
