use Rattle.std.proofs.Common.{refl}
use Rattle.host_form.specs.Laws.{Judges}
use Rattle.host_form.proofs.Ordered.{ordered-whole}
use Rattle.host_form.proofs.rows.free_orders_are_reported.Goals as goal

pub returns : goal.returns
returns c = record { script = refl; report = λ judge told text there is. ordered-whole (Judges judge) told text there is }
