-- By so many events at a time.
use Rattle.std.proofs.Common.{refl, []}
use Rattle.std.specs.Fmt.{digits}
use Rattle.vl_design.specs.Examples.{tried, counter}
use Rattle.vl_design.proofs.Running.{shows_by}
use Rattle.vl_design.proofs.rows.three_ticks_of_a_counter.Goals as goal

pub returns : goal.returns
unfolding digits
returns c = shows_by (tried [] counter) 9 3 _ _ refl refl
