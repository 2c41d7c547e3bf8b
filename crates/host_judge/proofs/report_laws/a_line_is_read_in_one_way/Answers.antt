use Rattle.host_files.specs.host_form.proofs.Once.{read-once}
use Rattle.host_judge.specs.Judged.{judged}
use Rattle.host_judge.proofs.report_laws.a_line_is_read_in_one_way.Goals as goal

pub returns : goal.returns
returns c = λ told line t u h k. read-once judged told line t u c.a_source_is_judged_in_one_way.ensures h k
