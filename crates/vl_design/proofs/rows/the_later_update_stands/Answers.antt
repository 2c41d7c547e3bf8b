-- By so many events at a time.
use Rattle.std.proofs.Common.{refl, []}
use Rattle.std.specs.Fmt.{digits}
use Rattle.vl_design.specs.Examples.{tried, bit_writes}
use Rattle.vl_design.proofs.Running.{shows_by}
use Rattle.vl_design.proofs.rows.the_later_update_stands.Goals as goal

pub returns : goal.returns
unfolding digits
returns c = shows_by (tried [] bit_writes) 9 2 _ _ refl refl
