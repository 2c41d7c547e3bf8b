use Rattle.std.proofs.Common.{◌∙◌, sym, ap}
use Rattle.vl_uses.specs.Alone as spec
use Rattle.vl_uses.proofs.Parentheses.{apart-Parenthesized}
use Rattle.vl_uses.proofs.alone.primary_apart.Goals as goal

pub returns-in-Parenthesized : goal.returns-in-Parenthesized
returns-in-Parenthesized c = c.apart.ensures ∙ (ap spec.apart c.get.ensures ∙ (sym (apart-Parenthesized c.in-Parenthesized.field-0 c.in-Parenthesized.inner) ∙ ap spec.primary_apart (sym c.in-Parenthesized.is)))
