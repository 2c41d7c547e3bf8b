use Rattle.std.proofs.Common.{◌<◌, length}
use Rattle.vl_tree.specs.Parsing as spec
use Rattle.vl_pstmt.proofs.Passing.{GoesOn}
use Rattle.vl_parse.proofs.triggers.events.Given as goal

abbrev pub invariant-each : goal.invariant-each
invariant-each l = record {
  reads : GoesOn (spec.between_events (spec.whole l.reader.depth) (spec.target l.reader.depth) l.reader.depth) (λ _. spec.event (spec.whole l.reader.depth) (spec.target l.reader.depth) l.reader.depth) l.events l.rest (spec.events (spec.whole l.reader.depth) (spec.target l.reader.depth) l.reader.depth l.fn.tokens);
  shorter : length l.rest < length l.fn.tokens;
}

abbrev pub decreases-each : goal.decreases-each
decreases-each l = length l.rest
