use Rattle.std.proofs.Common.{codes, arith}
use Rattle.vl_tree.specs.Reading.{mark}
use Rattle.vl_tree.specs.Parsing as spec
use Rattle.vl_pstmt.proofs.Passing.{passed, many_end, many_fails}
use Rattle.vl_parse.proofs.Lists.{list_fails, list_opened, list_turned, added_fails}
use Rattle.vl_parse.proofs.declarations.declaration_assignments.Goals as goal

pub returns-in_err-assignments-clause-reads : goal.returns-in_err-assignments-clause-reads
returns-in_err-assignments-clause-reads c = passed _ _ _ c.from_residual.ensures.1 (list_fails (spec.declaration_assignment (spec.whole c.args.reader.depth) (spec.target c.args.reader.depth) c.args.reader.depth) _ _ _ (added_fails _ _ _ (c.in_err-assignments.ensures.reads _ c.declaration_assignment.ensures.reads)))

pub each-init : goal.each-init
each-init c = record {
  reads = list_opened (spec.declaration_assignment (spec.whole c.args.reader.depth) (spec.target c.args.reader.depth) c.args.reader.depth) _ _ _ _ _ c.new.ensures (c.in_ok-assignments.ensures.reads _ c.declaration_assignment.ensures.reads) (omega (arith, c.in_ok-assignments.ensures.shorter _ c.declaration_assignment.ensures.shorter));
  shorter = c.in_ok-assignments.ensures.shorter _ c.declaration_assignment.ensures.shorter;
}

pub returns-in_err-longer-clause-reads : goal.returns-in_err-longer-clause-reads
returns-in_err-longer-clause-reads c = passed _ _ _ c.from_residual-in_err-longer.ensures.1
    (many_fails (mark (codes ",")) (λ _. spec.declaration_assignment (spec.whole c.args.reader.depth) (spec.target c.args.reader.depth) c.args.reader.depth) _ _ _ _ _ _ c.in-Some.ensures.value (added_fails _ _ _ (c.in_err-longer.ensures.reads _ c.declaration_assignment-in-Some.ensures.reads)) c.each.invariant.reads)

pub each-preserved : goal.each-preserved
each-preserved c = record {
  reads = list_turned (mark (codes ",")) (λ _. spec.declaration_assignment (spec.whole c.args.reader.depth) (spec.target c.args.reader.depth) c.args.reader.depth) _ _ _ _ _ _ _ c.in-Some.ensures.value (c.in_ok-longer.ensures.reads _ c.declaration_assignment-in-Some.ensures.reads) (omega (arith, c.in-Some.ensures.shorter, c.in_ok-longer.ensures.shorter _ c.declaration_assignment-in-Some.ensures.shorter)) c.each.invariant.reads;
  shorter = omega (arith, c.in-Some.ensures.shorter, c.in_ok-longer.ensures.shorter _ c.declaration_assignment-in-Some.ensures.shorter);
}

pub returns-clause-reads : goal.returns-clause-reads
returns-clause-reads c = many_end (mark (codes ",")) (λ _. spec.declaration_assignment (spec.whole c.args.reader.depth) (spec.target c.args.reader.depth) c.args.reader.depth) _ _ _ c.in_default.ensures.value c.each.invariant.reads
