use Rattle.std.proofs.Common.{refl}
use Rattle.host_form.specs.Laws.{Judges}
use Rattle.host_form.proofs.Lone.{lone-reported}
use Rattle.host_form.proofs.rows.three_ticks_on_one_fabric_are_reported.Goals as goal

pub returns : goal.returns
returns c = record { script = refl; report = λ judge told text there is. lone-reported (Judges judge) told text there is }
