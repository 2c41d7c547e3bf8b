-- By so many moves.
use Rattle.std.proofs.Common.{refl, []}
use Rattle.std.specs.Fmt.{digits}
use Rattle.vl_design.specs.Examples.{tried, late_net}
use Rattle.sub_nodes.specs.Code.{table_of}
use Rattle.sub_nodes.specs.Samples.{w_is_x}
use Rattle.sub_nodes.proofs.Moving.{shows_by}
use Rattle.sub_nodes.proofs.rows.nets_wait_for_the_end_of_the_wave.Goals as goal

pub returns : goal.returns
unfolding digits
returns c = shows_by (tried [] late_net) (table_of late_net) w_is_x 10 _ _ _ refl refl refl
