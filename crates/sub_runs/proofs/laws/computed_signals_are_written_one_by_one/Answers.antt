use Rattle.sub_runs.proofs.Signals.{by_signal, of_signals}
use Rattle.sub_runs.proofs.laws.computed_signals_are_written_one_by_one.Goals as goal

pub returns : goal.returns
returns c = λ d. (λ w i k m n. by_signal d w i k m n, λ h. of_signals d h)
