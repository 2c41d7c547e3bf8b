use Rattle.std.proofs.Common.{refl}
use Rattle.host_form.specs.Laws.{Judges}
use Rattle.host_form.proofs.Stopping.{stopping-whole}
use Rattle.host_form.proofs.rows.a_stop_is_reported_and_a_snapshot_is_left.Goals as goal

pub returns : goal.returns
returns c = record { script = refl; report = λ judge told text there is. stopping-whole (Judges judge) told text there is }
