use Rattle.std.proofs.Common.{◌≤◌, length, [], ◌∷◌, codes}
use Rattle.vl_tree.specs.Reading.{mark}
use Rattle.vl_tree.specs.Parsers.{with_counted_front}
use Rattle.vl_tree.specs.Parsing.{lvalue, more_targets}
use Rattle.vl_pstmt.proofs.Passing.{GoesOnCounted}
use Rattle.vl_pstmt.proofs.targets.Targets.more.Given as goal

abbrev pub invariant-each : goal.invariant-each
invariant-each g l =
    let n = l.self.reader.depth in
    record {
      reads : GoesOnCounted (mark (codes ",")) (λ k _. lvalue n k) l.targets l.count l.rest (with_counted_front (l.fn.first ∷ []) (more_targets (lvalue n) n l.fn.before l.fn.tokens));
      no_longer : length l.rest ≤ length l.fn.tokens;
    }

abbrev pub decreases-each : goal.decreases-each
decreases-each g l = length l.rest
