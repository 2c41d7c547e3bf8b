-- By so many events at a time.
use Rattle.std.proofs.Common.{refl, []}
use Rattle.std.specs.Fmt.{digits}
use Rattle.vl_design.specs.Examples.{tried, filled}
use Rattle.vl_design.proofs.Running.{shows_by}
use Rattle.vl_design.proofs.rows.a_loop_runs_turn_by_turn.Goals as goal

pub returns : goal.returns
unfolding digits
returns c = shows_by (tried [] filled) 9 0 _ _ refl refl
