use Rattle.sub_runs.proofs.Coming.{run_starts, run_reaches, commit_low, apply_low, apply_stands}
use Rattle.sub_runs.proofs.laws.time_zeros_wave_is_left_once.Goals as goal

pub returns : goal.returns
returns c = record {
  leads = λ d n m x e h. (run_reaches d n m x e h, run_starts d n m x e h);
  ends = λ d n to g e. commit_low d n to g e;
  updates = λ d n to e. (apply_stands d n to e, apply_low d n to e);
}
