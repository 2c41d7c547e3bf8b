-- By so many events at a time.
use Rattle.std.proofs.Common.{refl, []}
use Rattle.std.specs.Fmt.{digits}
use Rattle.vl_design.specs.Examples.{tried, greets}
use Rattle.vl_design.proofs.Running.{shows_by}
use Rattle.vl_design.proofs.rows.an_initial_block_runs_at_time_zero.Goals as goal

pub returns : goal.returns
unfolding digits
returns c = shows_by (tried [] greets) 9 0 _ _ refl refl
