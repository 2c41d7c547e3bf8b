use Rattle.std.proofs.Common.{◌∙◌}
use Rattle.vl_parse.proofs.Separators.{separator_first, separator_second}
use Rattle.vl_parse.proofs.triggers.after_separator.Goals as goal

pub returns-in-Some-clause-value : goal.returns-in-Some-clause-value
returns-in-Some-clause-value c n = separator_first n _ _ _ c.in-Some.ensures.value

pub returns-clause-value : goal.returns-clause-value
returns-clause-value c n = c.after_mark.ensures.value ∙ separator_second n _ c.in_default.ensures.value
