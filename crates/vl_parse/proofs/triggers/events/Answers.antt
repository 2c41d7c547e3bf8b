use Rattle.std.proofs.Common.{arith}
use Rattle.vl_tree.specs.Parsing as spec
use Rattle.vl_pstmt.proofs.Passing.{passed, many_end, many_fails}
use Rattle.vl_parse.proofs.Lists.{added_fails, list_turned}
use Rattle.vl_parse.proofs.Separators.{events_opened, events_fail}
use Rattle.vl_parse.proofs.triggers.events.Goals as goal

pub returns-in_err-events-clause-reads : goal.returns-in_err-events-clause-reads
returns-in_err-events-clause-reads c = passed _ _ _ c.from_residual.ensures.1 (events_fail c.args.reader.depth _ _ (added_fails _ _ _ (c.in_err-events.ensures.reads _ c.event.ensures.reads)))

pub each-init : goal.each-init
each-init c = record {
  reads = events_opened c.args.reader.depth _ _ _ _ c.new.ensures (c.in_ok-events.ensures.reads _ c.event.ensures.reads) (omega (arith, c.in_ok-events.ensures.shorter _ c.event.ensures.shorter));
  shorter = c.in_ok-events.ensures.shorter _ c.event.ensures.shorter;
}

pub returns-in_err-longer-clause-reads : goal.returns-in_err-longer-clause-reads
returns-in_err-longer-clause-reads c = passed _ _ _ c.from_residual-in_err-longer.ensures.1
    (many_fails (spec.between_events (spec.whole c.args.reader.depth) (spec.target c.args.reader.depth) c.args.reader.depth) (λ _. spec.event (spec.whole c.args.reader.depth) (spec.target c.args.reader.depth) c.args.reader.depth) _ _ _ _ _ _ (c.in-Some.ensures.value c.args.reader.depth) (added_fails _ _ _ (c.in_err-longer.ensures.reads _ c.event-in-Some.ensures.reads)) c.each.invariant.reads)

pub each-preserved : goal.each-preserved
each-preserved c = record {
  reads = list_turned (spec.between_events (spec.whole c.args.reader.depth) (spec.target c.args.reader.depth) c.args.reader.depth) (λ _. spec.event (spec.whole c.args.reader.depth) (spec.target c.args.reader.depth) c.args.reader.depth) _ _ _ _ _ _ _ (c.in-Some.ensures.value c.args.reader.depth) (c.in_ok-longer.ensures.reads _ c.event-in-Some.ensures.reads) (omega (arith, c.in-Some.ensures.shorter, c.in_ok-longer.ensures.shorter _ c.event-in-Some.ensures.shorter)) c.each.invariant.reads;
  shorter = omega (arith, c.in-Some.ensures.shorter, c.in_ok-longer.ensures.shorter _ c.event-in-Some.ensures.shorter);
}

pub returns-clause-reads : goal.returns-clause-reads
returns-clause-reads c = many_end (spec.between_events (spec.whole c.args.reader.depth) (spec.target c.args.reader.depth) c.args.reader.depth) (λ _. spec.event (spec.whole c.args.reader.depth) (spec.target c.args.reader.depth) c.args.reader.depth) _ _ _ (c.in_default.ensures.value c.args.reader.depth) c.each.invariant.reads
