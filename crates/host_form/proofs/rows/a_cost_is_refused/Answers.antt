use Rattle.std.proofs.Common.{refl}
use Rattle.host_form.specs.Laws.{Judges}
use Rattle.host_form.proofs.Tight.{tight-reported}
use Rattle.host_form.proofs.rows.a_cost_is_refused.Goals as goal

pub returns : goal.returns
returns c = record { script = refl; report = λ judge told text there is. tight-reported (Judges judge) told text there is }
