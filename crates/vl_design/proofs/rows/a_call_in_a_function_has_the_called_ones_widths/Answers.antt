-- By so many events at a time.
use Rattle.std.proofs.Common.{refl, []}
use Rattle.std.specs.Fmt.{digits}
use Rattle.vl_design.specs.Examples.{tried, nested_calls}
use Rattle.vl_design.proofs.Running.{shows_by}
use Rattle.vl_design.proofs.rows.a_call_in_a_function_has_the_called_ones_widths.Goals as goal

pub returns : goal.returns
unfolding digits
returns c = shows_by (tried [] nested_calls) 9 0 _ _ refl refl
