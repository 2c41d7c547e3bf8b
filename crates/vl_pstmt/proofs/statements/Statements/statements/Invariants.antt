use Rattle.std.proofs.Common.{◌≤◌, length, codes}
use Rattle.vl_tree.specs.Parsers.{before, is_word}
use Rattle.vl_pstmt.specs.Nests.{nested}
use Rattle.vl_pstmt.proofs.Passing.{GoesBefore}
use Rattle.vl_pstmt.proofs.statements.Statements.statements.Given as goal

abbrev pub invariant-each : goal.invariant-each
invariant-each g l = record {
  reads : GoesBefore (is_word (codes "end")) (nested l.self.reader.depth l.self.room) l.statements l.rest (before (is_word (codes "end")) (nested l.self.reader.depth l.self.room) l.self.reader.depth l.fn.tokens);
  no_longer : length l.rest ≤ length l.fn.tokens;
}

abbrev pub decreases-each : goal.decreases-each
decreases-each g l = length l.rest
