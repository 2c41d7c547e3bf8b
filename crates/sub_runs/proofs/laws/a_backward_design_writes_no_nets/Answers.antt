use Rattle.sub_runs.proofs.Sample.{nets, narrow, memories}
use Rattle.sub_runs.proofs.laws.a_backward_design_writes_no_nets.Goals as goal

pub returns : goal.returns
returns c = record { nets = nets; narrow = narrow; memories = memories }
