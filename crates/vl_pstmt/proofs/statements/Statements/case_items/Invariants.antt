use Rattle.std.proofs.Common.{◌≤◌, length, [], ◌∷◌}
use Rattle.vl_tree.specs.Parsers.{with_front}
use Rattle.vl_tree.specs.Parsing.{whole, target, case_items}
use Rattle.vl_pstmt.specs.Nests.{nested}
use Rattle.vl_pstmt.proofs.CaseItems.{GoesOn}
use Rattle.vl_pstmt.proofs.statements.Statements.case_items.Given as goal

abbrev pub invariant-each : goal.invariant-each
invariant-each g l =
    let n = l.self.reader.depth in
    let inner = nested n l.self.room in
    record {
      reads : GoesOn (whole n) (target n) n inner l.items l.default_may_come l.rest (with_front (l.fn.first ∷ []) (case_items (whole n) (target n) n inner n l.fn.may l.fn.tokens));
      no_longer : length l.rest ≤ length l.fn.tokens;
    }

abbrev pub decreases-each : goal.decreases-each
decreases-each g l = length l.rest
