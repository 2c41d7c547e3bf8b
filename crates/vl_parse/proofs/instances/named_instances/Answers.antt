use Rattle.std.proofs.Common.{codes, arith}
use Rattle.vl_tree.specs.Reading.{mark}
use Rattle.vl_tree.specs.Parsing as spec
use Rattle.vl_pstmt.proofs.Passing.{passed, many_end, many_fails}
use Rattle.vl_parse.proofs.Lists.{list_fails, list_opened, list_turned, added_fails}
use Rattle.vl_parse.proofs.instances.named_instances.Goals as goal

pub returns-in_err-instances-clause-reads : goal.returns-in_err-instances-clause-reads
returns-in_err-instances-clause-reads c = passed _ _ _ c.from_residual.ensures.1 (list_fails (spec.named_instance (spec.whole c.args.reader.depth) (spec.target c.args.reader.depth) c.args.reader.depth) _ _ _ (added_fails _ _ _ (c.in_err-instances.ensures.reads _ c.named_instance.ensures.reads)))

pub each-init : goal.each-init
each-init c = record {
  reads = list_opened (spec.named_instance (spec.whole c.args.reader.depth) (spec.target c.args.reader.depth) c.args.reader.depth) _ _ _ _ _ c.new.ensures (c.in_ok-instances.ensures.reads _ c.named_instance.ensures.reads) (omega (arith, c.in_ok-instances.ensures.shorter _ c.named_instance.ensures.shorter));
  shorter = c.in_ok-instances.ensures.shorter _ c.named_instance.ensures.shorter;
}

pub returns-in_err-longer-clause-reads : goal.returns-in_err-longer-clause-reads
returns-in_err-longer-clause-reads c = passed _ _ _ c.from_residual-in_err-longer.ensures.1
    (many_fails (mark (codes ",")) (λ _. spec.named_instance (spec.whole c.args.reader.depth) (spec.target c.args.reader.depth) c.args.reader.depth) _ _ _ _ _ _ c.in-Some.ensures.value (added_fails _ _ _ (c.in_err-longer.ensures.reads _ c.named_instance-in-Some.ensures.reads)) c.each.invariant.reads)

pub each-preserved : goal.each-preserved
each-preserved c = record {
  reads = list_turned (mark (codes ",")) (λ _. spec.named_instance (spec.whole c.args.reader.depth) (spec.target c.args.reader.depth) c.args.reader.depth) _ _ _ _ _ _ _ c.in-Some.ensures.value (c.in_ok-longer.ensures.reads _ c.named_instance-in-Some.ensures.reads) (omega (arith, c.in-Some.ensures.shorter, c.in_ok-longer.ensures.shorter _ c.named_instance-in-Some.ensures.shorter)) c.each.invariant.reads;
  shorter = omega (arith, c.in-Some.ensures.shorter, c.in_ok-longer.ensures.shorter _ c.named_instance-in-Some.ensures.shorter);
}

pub returns-clause-reads : goal.returns-clause-reads
returns-clause-reads c = many_end (mark (codes ",")) (λ _. spec.named_instance (spec.whole c.args.reader.depth) (spec.target c.args.reader.depth) c.args.reader.depth) _ _ _ c.in_default.ensures.value c.each.invariant.reads
