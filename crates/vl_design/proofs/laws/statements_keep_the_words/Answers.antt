use Rattle.vl_design.proofs.Shaping.{exec_shape}
use Rattle.vl_design.proofs.laws.statements_keep_the_words.Goals as goal

pub returns : goal.returns
returns c = λ scope a s. exec_shape scope a s
