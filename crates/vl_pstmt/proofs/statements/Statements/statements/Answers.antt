use Rattle.std.proofs.Common.{arith, codes}
use Rattle.vl_tree.specs.Parsers.{is_word}
use Rattle.vl_pstmt.specs.Nests.{nested}
use Rattle.vl_pstmt.proofs.Passing.{passed, with_front_none, before_turn, before_end, before_fails}
use Rattle.vl_pstmt.proofs.statements.Statements.statements.Goals as goal

pub each-init : goal.each-init
each-init g c = record {
  reads = (c.args.self.now.reader.depth, omega arith, rw c.new-statements.ensures (with_front_none _));
  no_longer = omega arith;
}

pub returns-in_err-statement-clause-reads : goal.returns-in_err-statement-clause-reads
returns-in_err-statement-clause-reads g c =
    let inner = nested c.args.self.now.reader.depth c.args.self.now.room in
    passed _ _ _ c.from_residual.ensures.1 (before_fails (is_word (codes "end")) inner _ _ _ _ (cc (c.each-test.true, c.comes.ensures)) c.in_err-statement.ensures.reads c.each.invariant.reads)

pub each-preserved : goal.each-preserved
each-preserved g c =
    let inner = nested c.args.self.now.reader.depth c.args.self.now.room in
    record {
      reads = rw c.in_ok-push.ensures.ok (before_turn (is_word (codes "end")) inner _ _ _ _ _ (cc (c.each-test.true, c.comes.ensures)) c.in_ok-statement.ensures.reads c.in_ok-statement.ensures.shorter c.each.invariant.reads);
      no_longer = omega (arith, c.in_ok-statement.ensures.shorter);
    }

pub returns-clause-reads : goal.returns-clause-reads
returns-clause-reads g c =
    let inner = nested c.args.self.now.reader.depth c.args.self.now.room in
    before_end (is_word (codes "end")) inner c.each.statements c.each.rest.now _ (cc (c.each-test.false, c.comes.ensures)) c.each.invariant.reads
