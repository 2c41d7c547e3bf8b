use Rattle.vl_runs.proofs.Onward.{wave_passes, update_passes}
use Rattle.vl_runs.proofs.acts_laws.the_end_of_a_wave_and_an_update_lead_to_the_values_of_one_pass.Goals as goal

pub returns : goal.returns
returns c = record {
  wave = λ o order n p left q k u ord fine a f e r. wave_passes o k u order ord fine p left q a f e r;
  update = λ o order n q k u ord fine a e. update_passes o k u order ord fine q a e;
}
