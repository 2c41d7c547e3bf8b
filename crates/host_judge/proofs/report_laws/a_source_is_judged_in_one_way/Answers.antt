use Rattle.host_judge.proofs.Judging.{judged-once}
use Rattle.host_judge.proofs.report_laws.a_source_is_judged_in_one_way.Goals as goal

pub returns : goal.returns
returns c = let law = c.a_text_is_a_design_or_refused.ensures in judged-once law.design law.refusal law.not_both
