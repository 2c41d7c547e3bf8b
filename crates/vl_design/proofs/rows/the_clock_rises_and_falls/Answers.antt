-- By so many events at a time.
use Rattle.std.proofs.Common.{refl, []}
use Rattle.std.specs.Fmt.{digits}
use Rattle.vl_design.specs.Examples.{tried, both_edges}
use Rattle.vl_design.proofs.Running.{shows_by}
use Rattle.vl_design.proofs.rows.the_clock_rises_and_falls.Goals as goal

pub returns : goal.returns
unfolding digits
returns c = shows_by (tried [] both_edges) 12 1 _ _ refl refl
