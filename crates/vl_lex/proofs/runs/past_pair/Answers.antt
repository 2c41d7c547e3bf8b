use Rattle.std.proofs.Common.{sym, ap, ◌∙◌}
use Rattle.std.proofs.lemmas.List.{nil_from_length}
use Rattle.vl_lex.specs.Reading.{past_pair as past_pair_lem}
use Rattle.vl_lex.proofs.RunLaws.{pair_none}
use Rattle.vl_lex.proofs.runs.past_pair.Goals as goal

pub returns : goal.returns
returns c = sym (ap (past_pair_lem c.args.a c.args.b) (nil_from_length _ c.in_default.ensures.cases) ∙ pair_none c.args.a c.args.b) ∙ c.loop-byte.invariant
