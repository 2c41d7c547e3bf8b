-- By so many events at a time.
use Rattle.std.proofs.Common.{refl}
use Rattle.std.specs.Fmt.{digits}
use Rattle.vl_design.specs.Examples.{tried, two_words, sum}
use Rattle.vl_design.proofs.Running.{shows_by}
use Rattle.vl_design.proofs.rows.the_words_of_a_file_are_summed.Goals as goal

pub returns : goal.returns
unfolding digits
returns c = shows_by (tried two_words sum) 12 3 _ _ refl refl
