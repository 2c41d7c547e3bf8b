use Rattle.sub_runs.proofs.Memories.{comes_words}
use Rattle.sub_runs.proofs.laws.memories_hold_the_committed_words.Goals as goal

pub returns : goal.returns
returns c = λ o nets n i w x l. comes_words o w nets x l
