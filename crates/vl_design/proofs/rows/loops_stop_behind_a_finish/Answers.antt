-- By so many events at a time.
use Rattle.std.proofs.Common.{refl, []}
use Rattle.std.specs.Fmt.{digits}
use Rattle.vl_design.specs.Examples.{tried, finishes_before_loops}
use Rattle.vl_design.proofs.Running.{shows_by}
use Rattle.vl_design.proofs.rows.loops_stop_behind_a_finish.Goals as goal

pub returns : goal.returns
unfolding digits
returns c = shows_by (tried [] finishes_before_loops) 9 5 _ _ refl refl
