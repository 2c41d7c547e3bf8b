use Rattle.elab_laws.proofs.Limits.{flat-limited}
use Rattle.elab_laws.proofs.limited_laws.signals_of_a_flat_design_are_limited.Goals as goal

pub returns : goal.returns
returns c = flat-limited
