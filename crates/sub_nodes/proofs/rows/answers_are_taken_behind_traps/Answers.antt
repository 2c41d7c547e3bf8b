-- By so many moves.
use Rattle.std.proofs.Common.{refl}
use Rattle.std.specs.Fmt.{digits}
use Rattle.vl_design.specs.Examples.{tried, sum, two_words}
use Rattle.sub_nodes.specs.Code.{table_of}
use Rattle.sub_nodes.specs.Samples.{no_nets}
use Rattle.sub_nodes.proofs.Moving.{shows_by}
use Rattle.sub_nodes.proofs.rows.answers_are_taken_behind_traps.Goals as goal

pub returns : goal.returns
unfolding digits
returns c = shows_by (tried two_words sum) (table_of sum) no_nets 27 _ _ _ refl refl refl
