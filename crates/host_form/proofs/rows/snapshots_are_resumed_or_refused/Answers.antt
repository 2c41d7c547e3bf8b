use Rattle.host_form.proofs.Resuming.{counter-resumed, narrow-refused, late-refused}
use Rattle.host_form.proofs.rows.snapshots_are_resumed_or_refused.Goals as goal

pub returns : goal.returns
returns c = record { resumed = counter-resumed; wide = narrow-refused; late = late-refused }
