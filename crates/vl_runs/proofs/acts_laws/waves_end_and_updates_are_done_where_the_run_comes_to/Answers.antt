use Rattle.vl_runs.proofs.Standing.{wave_comes, update_comes}
use Rattle.vl_runs.proofs.acts_laws.waves_end_and_updates_are_done_where_the_run_comes_to.Goals as goal

pub returns : goal.returns
returns c = record {
  wave = λ o n p left q u h a f e r. wave_comes o u h p left q a f e r;
  update = λ o n q u h a e. update_comes o u h q a e;
}
