use Rattle.vl_sites.proofs.Calling.{of_behind}
use Rattle.vl_sites.proofs.Doing.{exec_behind, answer_behind}
use Rattle.vl_sites.proofs.laws.earlier_answers_do_not_matter.Goals as goal

pub returns : goal.returns
returns c = record {
  statement = λ scope a first s t h b. exec_behind scope a first s t h b;
  answer = λ scope a first s t g h f b. answer_behind scope first a g h s t (of_behind first s t b) f;
}
