-- By so many events at a time.
use Rattle.std.proofs.Common.{refl, []}
use Rattle.std.specs.Fmt.{digits}
use Rattle.vl_design.specs.Examples.{tried, finishes}
use Rattle.vl_design.proofs.Running.{shows_by}
use Rattle.vl_design.proofs.rows.nothing_is_done_behind_a_finish.Goals as goal

pub returns : goal.returns
unfolding digits
returns c = shows_by (tried [] finishes) 9 5 _ _ refl refl
