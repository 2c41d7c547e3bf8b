use Rattle.ten_alone.proofs.Starting.{can-run}
use Rattle.ten_alone.proofs.laws.a_tenants_image_can_be_run.Goals as goal

pub returns : goal.returns
returns c = λ x r. can-run x r c.words_that_fit_are_fine.ensures c.runs_of_a_tenants_design_are_tame.ensures
