use Rattle.host_files.specs.host_form.proofs.Told.{names-in-order}
use Rattle.host_judge.specs.Judged.{judged}
use Rattle.host_judge.proofs.report_laws.tenants_are_reported_in_order.Goals as goal

pub returns : goal.returns
returns c = λ told s histories bytes r. names-in-order judged told s histories bytes r
