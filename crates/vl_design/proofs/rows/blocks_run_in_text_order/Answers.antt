-- By so many events at a time.
use Rattle.std.proofs.Common.{refl, []}
use Rattle.std.specs.Fmt.{digits}
use Rattle.vl_design.specs.Examples.{tried, two_blocks}
use Rattle.vl_design.proofs.Running.{shows_by}
use Rattle.vl_design.proofs.rows.blocks_run_in_text_order.Goals as goal

pub returns : goal.returns
unfolding digits
returns c = shows_by (tried [] two_blocks) 9 1 _ _ refl refl
