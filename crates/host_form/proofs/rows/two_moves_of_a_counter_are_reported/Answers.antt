use Rattle.std.proofs.Common.{refl}
use Rattle.host_form.specs.Laws.{Judges}
use Rattle.host_form.proofs.Moving.{moving-reported}
use Rattle.host_form.proofs.rows.two_moves_of_a_counter_are_reported.Goals as goal

pub returns : goal.returns
returns c = record { script = refl; plan = refl; report = λ judge told text there is. moving-reported (Judges judge) told text there is }
