use Rattle.vl_design.proofs.Growing.{finished_stays}
use Rattle.vl_design.proofs.laws.a_finished_run_stays.Goals as goal

pub returns : goal.returns
returns c = λ o k q x h. finished_stays o k q x h
