use Rattle.std.proofs.Common.{◌≤◌, length, codes}
use Rattle.vl_tree.specs.Reading.{mark}
use Rattle.vl_tree.specs.Parsing.{index, indices}
use Rattle.vl_pstmt.proofs.Passing.{GoesOnCounted}
use Rattle.vl_pstmt.proofs.reader.Reader.indices.Given as goal

abbrev pub invariant-each : goal.invariant-each
invariant-each l = record {
  reads : GoesOnCounted (mark (codes "[")) (index l.self.depth) l.selects l.count l.rest (indices l.self.depth l.fn.before l.fn.tokens);
  no_longer : length l.rest ≤ length l.fn.tokens;
}

abbrev pub decreases-each : goal.decreases-each
decreases-each l = length l.rest
