use Rattle.std.proofs.Common.{sym, ◌∙◌}
use Rattle.std.specs.Option.{option_copied}
use Rattle.sub_split.proofs.Trees.{call-first, not-first, not-other}
use Rattle.sub_split.proofs.calls.call_of.Goals as goal

pub returns-in-Sys : goal.returns-in-Sys
returns-in-Sys c = λ path. call-first path c.args.e.now c.in-Sys.call c.in-Sys.is

pub returns-then-is_not : goal.returns-then-is_not
returns-then-is_not c = λ path a.
    not-first path c.args.e.now c.in-Un.op c.in-Un.a c.deref.result.now (option_copied c.own_call.result) a c.in-Un.is (sym c.is_not.ensures ∙ c.if-is_not.true) c.deref.ensures (c.own_call.ensures path c.args.e.now.place a)

pub returns-else-is_not : goal.returns-else-is_not
returns-else-is_not c = λ path a. not-other path c.args.e.now c.in-Un.op c.in-Un.a a c.in-Un.is (sym c.is_not.ensures ∙ c.if-is_not.false)
