use Rattle.host_form.proofs.Verdicts.{either, origin-once, refusal-once, not-both}
use Rattle.host_form.proofs.laws.a_tenant_has_one_origin_or_one_refusal.Goals as goal

pub returns : goal.returns
returns c = record { either = either; one_origin = origin-once; one_refusal = refusal-once; not_both = not-both }
