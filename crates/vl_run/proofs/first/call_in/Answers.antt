use Rattle.std.proofs.Common.{◌∙◌, ap}
use Rattle.vl_design.specs.declared.design.Expr.{Expr}
use Rattle.vl_design.specs.Seen as seen
use Rattle.vl_run.specs.Called.{negated_call}
use Rattle.vl_run.proofs.Called.{call-sys, call-un}
use Rattle.vl_run.proofs.first.call_in.Goals as goal

pub returns-in-Sys : goal.returns-in-Sys
returns-in-Sys c = call-sys c.args.e.now c.in-Sys.call c.in-Sys.is

pub returns-in-Un : goal.returns-in-Un
returns-in-Un c =
    c.negated_call.ensures ∙ (ap (λ (z : Expr). negated_call c.in-Un.op (seen.exp_of z)) c.deref.ensures ∙ call-un c.args.e.now c.in-Un.op c.in-Un.operand c.in-Un.is)
