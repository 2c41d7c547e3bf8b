use Rattle.vl_design.proofs.Counting.{count_is, count_before}
use Rattle.vl_design.proofs.laws.an_act_is_counted_once.Goals as goal

pub returns : goal.returns
returns c = record { after = λ o c p u h a. count_is o u h c p a; before = λ o c task p u h b. count_before o u h b }
