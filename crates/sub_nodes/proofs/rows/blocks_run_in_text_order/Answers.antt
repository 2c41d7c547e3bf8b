-- By so many moves.
use Rattle.std.proofs.Common.{refl, []}
use Rattle.std.specs.Fmt.{digits}
use Rattle.vl_design.specs.Examples.{tried, two_blocks}
use Rattle.sub_nodes.specs.Code.{table_of}
use Rattle.sub_nodes.specs.Samples.{no_nets}
use Rattle.sub_nodes.proofs.Moving.{shows_by}
use Rattle.sub_nodes.proofs.rows.blocks_run_in_text_order.Goals as goal

pub returns : goal.returns
unfolding digits
returns c = shows_by (tried [] two_blocks) (table_of two_blocks) no_nets 8 _ _ _ refl refl refl
