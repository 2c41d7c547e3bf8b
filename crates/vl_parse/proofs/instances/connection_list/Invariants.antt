use Rattle.std.proofs.Common.{◌≤◌, length, codes}
use Rattle.vl_tree.specs.Reading.{mark}
use Rattle.vl_tree.specs.Parsers.{list}
use Rattle.vl_tree.specs.Parsing as spec
use Rattle.vl_pstmt.proofs.Passing.{GoesOn}
use Rattle.vl_parse.proofs.instances.connection_list.Given as goal

abbrev pub invariant-each : goal.invariant-each
invariant-each l = record {
  reads : GoesOn (mark (codes ",")) (λ _. (spec.connection (spec.whole l.reader.depth) (spec.target l.reader.depth) l.reader.depth l.empty)) l.connections l.rest (list ((spec.connection (spec.whole l.reader.depth) (spec.target l.reader.depth) l.reader.depth l.empty)) l.reader.depth l.fn.tokens);
  no_longer : length l.rest ≤ length l.fn.tokens;
}

abbrev pub decreases-each : goal.decreases-each
decreases-each l = length l.rest
