use Rattle.std.proofs.Common.{refl}
use Rattle.host_form.specs.Laws.{Judges}
use Rattle.host_form.proofs.Greeting.{greeting-reported}
use Rattle.host_form.proofs.rows.a_tenant_that_ends_at_once_has_no_stay.Goals as goal

pub returns : goal.returns
returns c = record { script = refl; report = λ judge told text there is. greeting-reported (Judges judge) told text there is }
