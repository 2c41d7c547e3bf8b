use Rattle.vl_runs.proofs.Onward.{checked_quiet}
use Rattle.vl_runs.proofs.acts_laws.checked_processes_are_quiet.Goals as goal

pub returns : goal.returns
returns c = λ d h. checked_quiet d h
