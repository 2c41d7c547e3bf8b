-- By so many moves.
use Rattle.std.proofs.Common.{refl, []}
use Rattle.std.specs.Fmt.{digits}
use Rattle.vl_design.specs.Examples.{tried, finishes}
use Rattle.sub_nodes.specs.Code.{table_of}
use Rattle.sub_nodes.specs.Samples.{no_nets}
use Rattle.sub_nodes.proofs.Moving.{shows_by}
use Rattle.sub_nodes.proofs.rows.nothing_is_done_behind_a_finish.Goals as goal

pub returns : goal.returns
unfolding digits
returns c = shows_by (tried [] finishes) (table_of finishes) no_nets 9 _ _ _ refl refl refl
