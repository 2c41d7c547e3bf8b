use Rattle.vl_loops.proofs.Calling.{block_same, block_still}
use Rattle.vl_loops.proofs.laws.blocks_do_the_same.Goals as goal

pub returns-clause-state : goal.returns-clause-state
returns-clause-state c = λ d files b s can k h. block_same d can files b k s h

pub returns-clause-still : goal.returns-clause-still
returns-clause-still c = λ d files b s can k h. block_still d can files b k s h
