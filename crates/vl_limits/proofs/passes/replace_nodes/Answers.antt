use Rattle.std.proofs.Common.{refl, arith}
use Rattle.vl_limits.specs.Tallies.{counted_of}
use Rattle.vl_limits.proofs.Replacing.{nodes-kept, nodes-replaced}
use Rattle.vl_limits.proofs.passes.replace_nodes.Goals as goal

pub returns-then-number-funcs : goal.returns-then-number-funcs
returns-then-number-funcs c = λ e n h. nodes-kept c.args.signals.now c.args.funcs.now c.requires c.args.statements.now c.args.table.now.items n h

pub returns : goal.returns
returns c =
    let many = c.nodes_tally-tally in
    nodes-replaced c.args.signals.now c.args.funcs.now c.requires c.args.statements.now c.args.table.now.items c.as_slice.result.now _ c.args.number c.in_ok-nodes.nodes c.entry-few.result c.index-funcs-number.result many.result.cap (counted_of many.result)
    (omega (arith, c.if-number-funcs.false)) c.index-funcs-number.is c.in_ok-nodes.ensures c.entry-few.ensures many.ensures.cap many.ensures.counted c.as_slice.ensures.value refl
