use Rattle.std.proofs.Common.{◌<◌, length, codes}
use Rattle.vl_tree.specs.Reading.{mark}
use Rattle.vl_tree.specs.Parsers.{list}
use Rattle.vl_tree.specs.Parsing as spec
use Rattle.vl_pstmt.proofs.Passing.{GoesOn}
use Rattle.vl_parse.proofs.declarations.variable_types.Given as goal

abbrev pub invariant-each : goal.invariant-each
invariant-each l = record {
  reads : GoesOn (mark (codes ",")) (λ _. spec.variable_type (spec.whole l.reader.depth) (spec.target l.reader.depth) l.reader.depth) l.variables l.rest (list (spec.variable_type (spec.whole l.reader.depth) (spec.target l.reader.depth) l.reader.depth) l.reader.depth l.fn.tokens);
  shorter : length l.rest < length l.fn.tokens;
}

abbrev pub decreases-each : goal.decreases-each
decreases-each l = length l.rest
