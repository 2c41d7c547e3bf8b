-- By so many events at a time.
use Rattle.std.proofs.Common.{refl}
use Rattle.std.specs.Fmt.{digits}
use Rattle.vl_design.specs.Examples.{tried, empty_file, reads_empty}
use Rattle.vl_design.proofs.Running.{shows_by}
use Rattle.vl_design.proofs.rows.a_short_read_ends_a_file.Goals as goal

pub returns : goal.returns
unfolding digits
returns c = shows_by (tried empty_file reads_empty) 9 0 _ _ refl refl
