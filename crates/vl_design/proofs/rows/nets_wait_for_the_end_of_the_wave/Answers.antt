-- By so many events at a time.
use Rattle.std.proofs.Common.{refl, []}
use Rattle.std.specs.Fmt.{digits}
use Rattle.vl_design.specs.Examples.{tried, late_net}
use Rattle.vl_design.proofs.Running.{shows_by}
use Rattle.vl_design.proofs.rows.nets_wait_for_the_end_of_the_wave.Goals as goal

pub returns : goal.returns
unfolding digits
returns c = shows_by (tried [] late_net) 12 2 _ _ refl refl
