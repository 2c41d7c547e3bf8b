use Rattle.std.proofs.Common.{refl, arith}
use Rattle.vl_limits.specs.Tallies.{counted_of}
use Rattle.vl_limits.proofs.Replacing.{statements-kept, statements-replaced}
use Rattle.vl_limits.proofs.passes.replace_statements.Goals as goal

pub returns-then-number-funcs : goal.returns-then-number-funcs
returns-then-number-funcs c = λ n h. statements-kept c.args.signals.now c.args.funcs.now c.requires c.args.table.now.items n h

pub returns : goal.returns
returns c =
    let few = c.statements_tally-tally in
    statements-replaced c.args.signals.now c.args.funcs.now c.requires c.args.table.now.items c.as_slice.result.now _ c.args.number c.in_ok-statements.statements c.index-funcs-number.result few.result.cap (counted_of few.result)
    (omega (arith, c.if-number-funcs.false)) c.index-funcs-number.is c.in_ok-statements.ensures few.ensures.cap few.ensures.counted c.as_slice.ensures.value refl
