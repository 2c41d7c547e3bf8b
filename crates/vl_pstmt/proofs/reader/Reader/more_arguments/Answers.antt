use Rattle.std.proofs.Common.{codes, arith}
use Rattle.vl_tree.specs.Reading.{mark}
use Rattle.vl_pstmt.specs.Parts.{sarg}
use Rattle.vl_pstmt.proofs.Passing.{passed, many_turn, many_end, many_fails}
use Rattle.vl_pstmt.proofs.reader.Reader.more_arguments.Goals as goal

pub returns-in_err-argument-clause-reads : goal.returns-in_err-argument-clause-reads
returns-in_err-argument-clause-reads c = passed _ _ _ c.from_residual-in_err-argument.ensures.1
    (many_fails (mark (codes ",")) (λ _. sarg c.args.self.now.depth) _ _ _ _ _ _ c.in-Some.ensures.value c.in_err-argument.ensures.reads c.each.invariant.reads)

pub each-preserved : goal.each-preserved
each-preserved c = record {
  reads = rw c.in_ok-push-2.ensures.ok (many_turn (mark (codes ",")) (λ _. sarg c.args.self.now.depth) _ _ _ _ _ _ _ c.in-Some.ensures.value c.in_ok-argument.ensures.reads (omega (arith, c.in-Some.ensures.shorter, c.in_ok-argument.ensures.no_longer)) c.each.invariant.reads);
  no_longer = omega (arith, c.in-Some.ensures.shorter, c.in_ok-argument.ensures.no_longer);
}

pub returns-clause-reads : goal.returns-clause-reads
returns-clause-reads c = many_end (mark (codes ",")) (λ _. sarg c.args.self.now.depth) _ _ _ c.in_default.ensures.value c.each.invariant.reads
