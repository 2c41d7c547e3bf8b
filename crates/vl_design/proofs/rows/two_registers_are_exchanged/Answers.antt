-- By so many events at a time.
use Rattle.std.proofs.Common.{refl, []}
use Rattle.std.specs.Fmt.{digits}
use Rattle.vl_design.specs.Examples.{tried, exchange}
use Rattle.vl_design.proofs.Running.{shows_by}
use Rattle.vl_design.proofs.rows.two_registers_are_exchanged.Goals as goal

pub returns : goal.returns
unfolding digits
returns c = shows_by (tried [] exchange) 12 2 _ _ refl refl
