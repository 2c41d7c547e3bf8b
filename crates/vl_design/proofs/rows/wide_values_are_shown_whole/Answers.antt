-- By computing.
use Rattle.std.proofs.Common.{refl}
use Rattle.std.specs.Fmt.{digits}
use Rattle.vl_design.proofs.rows.wide_values_are_shown_whole.Goals as goal

pub returns : goal.returns
unfolding digits
returns c = refl
