use Rattle.std.proofs.Common.{codes, arith}
use Rattle.vl_tree.specs.Parsers.{is_word}
use Rattle.vl_tree.specs.Parsing as spec
use Rattle.vl_pstmt.proofs.Passing.{passed}
use Rattle.vl_parse.proofs.Lists.{groups_open, groups_step, groups_step_fails, groups_end}
use Rattle.vl_parse.proofs.declarations.more_groups.Goals as goal

pub each-init : goal.each-init
each-init c = record {
  reads = (c.args.reader.depth, omega arith, rw c.new-groups.ensures (groups_open _));
  no_longer = omega arith;
}

pub returns-in_err-before-clause-reads : goal.returns-in_err-before-clause-reads
returns-in_err-before-clause-reads c = passed _ _ _ c.from_residual.ensures.1
    (groups_step_fails (is_word (codes "parameter")) (spec.group_head (spec.whole c.args.reader.depth) (spec.target c.args.reader.depth) c.args.reader.depth) (spec.group_grow (spec.whole c.args.reader.depth) (spec.target c.args.reader.depth) c.args.reader.depth) _ _ _ _ _ _ _ c.in-Some.ensures.value c.in_err-before.ensures.reads c.each.invariant.reads)

pub each-preserved : goal.each-preserved
each-preserved c = record {
  reads = groups_step (is_word (codes "parameter")) (spec.group_head (spec.whole c.args.reader.depth) (spec.target c.args.reader.depth) c.args.reader.depth) (spec.group_grow (spec.whole c.args.reader.depth) (spec.target c.args.reader.depth) c.args.reader.depth) _ _ _ _ _ _ _ _ _ c.in-Some.ensures.value c.in_ok-before.ensures.reads (omega (arith, c.in-Some.ensures.shorter, c.in_ok-before.ensures.shorter)) c.each.invariant.reads;
  no_longer = omega (arith, c.in-Some.ensures.shorter, c.in_ok-before.ensures.shorter);
}

pub returns-clause-reads : goal.returns-clause-reads
returns-clause-reads c = rw c.in_ok-push.ensures.ok (groups_end (is_word (codes "parameter")) (spec.group_head (spec.whole c.args.reader.depth) (spec.target c.args.reader.depth) c.args.reader.depth) (spec.group_grow (spec.whole c.args.reader.depth) (spec.target c.args.reader.depth) c.args.reader.depth) _ _ _ _ c.in_default.ensures.value c.each.invariant.reads)
