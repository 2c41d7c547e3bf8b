-- By so many events at a time.
use Rattle.std.proofs.Common.{refl, [], true, false}
use Rattle.std.specs.Fmt.{digits}
use Rattle.vl_design.specs.Examples.{tried, high_z}
use Rattle.vl_design.proofs.Running.{shows_by}
use Rattle.vl_design.proofs.rows.a_signed_label_is_extended_by_its_highest_digit.Goals as goal

pub returns : goal.returns
unfolding digits
returns c = record {
  signed = shows_by (tried [] (high_z true)) 9 0 _ _ refl refl;
  unsigned = shows_by (tried [] (high_z false)) 9 0 _ _ refl refl;
}
