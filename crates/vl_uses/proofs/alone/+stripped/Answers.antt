use Rattle.std.proofs.Common.{◌∙◌, sym, ap}
use Rattle.vl_uses.specs.Alone as spec
use Rattle.vl_uses.proofs.Parentheses.{stripped-none, stripped-inner, stripped-other}
use Rattle.vl_uses.proofs.alone.+stripped.Goals as goal

pub returns-in-Parenthesized : goal.returns-in-Parenthesized
returns-in-Parenthesized t c = c.stripped.ensures ∙ (ap spec.stripped c.get.ensures ∙ sym (stripped-inner c.args.expression.now c.sole.result c.in-Some.primary c.in-Parenthesized.field-0 c.in-Parenthesized.inner c.sole.ensures c.in-Some.is c.in-Parenthesized.is))

pub returns-in_default-primary : goal.returns-in_default-primary
returns-in_default-primary t c = sym (stripped-other c.args.expression.now c.sole.result c.in-Some.primary c.sole.ensures c.in-Some.is c.in_default-primary.not-Parenthesized)

pub returns-in_default : goal.returns-in_default
returns-in_default t c = sym (stripped-none c.args.expression.now c.sole.result c.sole.ensures c.in_default.is)
