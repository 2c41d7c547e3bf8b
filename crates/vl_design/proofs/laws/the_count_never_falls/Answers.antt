use Rattle.vl_design.proofs.Rising.{boundaries_count}
use Rattle.vl_design.proofs.Counting.{exec_counts}
use Rattle.vl_design.proofs.laws.the_count_never_falls.Goals as goal

pub returns : goal.returns
returns c = record { statement = λ scope a s. exec_counts scope a s; boundary = λ o j k a b x y h. boundaries_count x y h }
