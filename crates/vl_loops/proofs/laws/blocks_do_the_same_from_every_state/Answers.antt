use Rattle.vl_loops.proofs.Calling.{block_anywhere}
use Rattle.vl_loops.proofs.laws.blocks_do_the_same_from_every_state.Goals as goal

pub returns : goal.returns
returns c = λ d files b s can k closed h. block_anywhere d can files b k closed s h
