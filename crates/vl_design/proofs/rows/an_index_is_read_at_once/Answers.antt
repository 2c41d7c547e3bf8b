-- By so many events at a time.
use Rattle.std.proofs.Common.{refl, []}
use Rattle.std.specs.Fmt.{digits}
use Rattle.vl_design.specs.Examples.{tried, early_index}
use Rattle.vl_design.proofs.Running.{shows_by}
use Rattle.vl_design.proofs.rows.an_index_is_read_at_once.Goals as goal

pub returns : goal.returns
unfolding digits
returns c = shows_by (tried [] early_index) 9 2 _ _ refl refl
