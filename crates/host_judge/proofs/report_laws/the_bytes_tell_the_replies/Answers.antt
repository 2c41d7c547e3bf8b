use Rattle.host_files.specs.host_form.proofs.Told.{answers-told}
use Rattle.host_judge.specs.Judged.{judged}
use Rattle.host_judge.proofs.report_laws.the_bytes_tell_the_replies.Goals as goal

pub returns : goal.returns
returns c = λ told s histories bytes a b h k. answers-told judged told s histories bytes a b h k
