-- By so many moves.
use Rattle.std.proofs.Common.{refl, []}
use Rattle.std.specs.Fmt.{digits}
use Rattle.vl_design.specs.Examples.{tried, both_edges}
use Rattle.sub_nodes.specs.Code.{table_of}
use Rattle.sub_nodes.specs.Samples.{no_nets}
use Rattle.sub_nodes.proofs.Moving.{shows_by}
use Rattle.sub_nodes.proofs.rows.the_clock_rises_and_falls.Goals as goal

pub returns : goal.returns
unfolding digits
returns c = shows_by (tried [] both_edges) (table_of both_edges) no_nets 10 _ _ _ refl refl refl
