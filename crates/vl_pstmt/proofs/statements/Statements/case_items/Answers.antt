use Rattle.std.proofs.Common.{arith}
use Rattle.vl_tree.specs.Parsing.{whole, target}
use Rattle.vl_pstmt.specs.Nests.{nested}
use Rattle.vl_pstmt.proofs.CaseItems.{items_turn, items_end, items_fail}
use Rattle.vl_pstmt.proofs.Passing.{passed}
use Rattle.vl_pstmt.proofs.statements.Statements.case_items.Goals as goal

pub returns-in_err-item-clause-reads : goal.returns-in_err-item-clause-reads
returns-in_err-item-clause-reads g c =
    let n = c.args.self.now.reader.depth in
    let inner = nested n c.args.self.now.room in
    passed _ _ _ c.from_residual-in_err-item.ensures.1 (items_fail (whole n) (target n) n inner _ _ _ _ _ (cc (c.each-test.true, c.comes.ensures)) c.in_err-item.ensures.reads c.each.invariant.reads)

pub each-preserved : goal.each-preserved
each-preserved g c =
    let n = c.args.self.now.reader.depth in
    let inner = nested n c.args.self.now.room in
    record {
      reads = rw c.in_ok-push-2.ensures.ok (items_turn (whole n) (target n) n inner _ _ _ _ _ _ _ (cc (c.each-test.true, c.comes.ensures)) c.in_ok-item.ensures.reads c.in_ok-item.ensures.shorter c.each.invariant.reads);
      no_longer = omega (arith, c.in_ok-item.ensures.shorter);
    }

pub returns-clause-reads : goal.returns-clause-reads
returns-clause-reads g c =
    let n = c.args.self.now.reader.depth in
    let inner = nested n c.args.self.now.room in
    items_end (whole n) (target n) n inner _ _ _ _ (cc (c.each-test.false, c.comes.ensures)) c.each.invariant.reads
