use Rattle.vl_front.proofs.OneAnswer.{one_design, one_refusal, not_both}
use Rattle.vl_front.proofs.laws.a_text_is_a_design_or_refused.Goals as goal

pub returns : goal.returns
returns c = record { design = one_design; refusal = one_refusal; not_both = not_both }
