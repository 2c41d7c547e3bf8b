use Rattle.host_files.specs.host_form.proofs.Whole.{report-once, files-once}
use Rattle.host_judge.specs.Judged.{judged}
use Rattle.host_judge.proofs.report_laws.a_script_has_one_report_at_most.Goals as goal

pub returns : goal.returns
returns c = let one = c.a_source_is_judged_in_one_way.ensures in record {
  report = λ told s histories bytes others a b same. report-once judged told s histories bytes others one a b same;
  files = λ told s histories bytes others a b same left right x y. files-once judged told s histories bytes others one a b same left right x y;
}
