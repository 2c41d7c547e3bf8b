use Rattle.std.proofs.Common.{◌≡◌, ◌+◌, suc, sym, ◌∙◌, length, map, arith}
use Rattle.vl_design.specs.Seen.{func_of}
use Rattle.vl_limits.specs.Bodies.{next_statements, next_nodes}
use Rattle.vl_limits.proofs.Rounds.{from-slices, slices-heads, more-rounds, round-is, stays-to}
use Rattle.vl_limits.proofs.bodies.rounds_of.Goals as goal

pub next_bodies-requires : goal.next_bodies-requires
next_bodies-requires c = record { heads = slices-heads c.args.design.now c.requires c.as_slice-signals.result.now c.as_slice-funcs.result.now c.as_slice-signals.ensures c.as_slice-funcs.ensures }

pub returns-then-is_same-2 : goal.returns-then-is_same-2
returns-then-is_same-2 c =
    let design = c.args.design.now in
    let before = c.loop-round.all in
    let next = c.in_ok-next.next in
    let h = from-slices next_statements before.statements.items design.signals c.as_slice-signals.result.now design.funcs c.as_slice-funcs.result.now next.statements.items c.in_ok-next.ensures.statements c.as_slice-signals.ensures c.as_slice-funcs.ensures in
    let k = from-slices (λ s b. next_nodes s before.statements.items b) before.nodes.items design.signals c.as_slice-signals.result.now design.funcs c.as_slice-funcs.result.now next.nodes.items c.in_ok-next.ensures.nodes c.as_slice-signals.ensures c.as_slice-funcs.ensures in
    stays-to design c.requires c.loop-round._round (length (map func_of design.funcs)) before.statements.items before.nodes.items next.statements.items next.nodes.items c.loop-round.invariant h k
    (sym c.deref.ensures.value ∙ (c.is_same.ensures c.if-is_same.true ∙ c.deref-in-loop-round.ensures.value))
    (sym c.deref-then-is_same.ensures.value ∙ (c.is_same-then-is_same.ensures c.if-is_same-2.true ∙ c.deref-then-is_same-2.ensures.value))
    (more-rounds design c.loop-round._round c.as_slice-funcs.result.now c.as_slice-funcs.ensures c.loop-round-test.true)

pub loop-round-preserved : goal.loop-round-preserved
loop-round-preserved c =
    let design = c.args.design.now in
    let before = c.loop-round.all in
    let next = c.in_ok-next.next in
    let h = from-slices next_statements before.statements.items design.signals c.as_slice-signals.result.now design.funcs c.as_slice-funcs.result.now next.statements.items c.in_ok-next.ensures.statements c.as_slice-signals.ensures c.as_slice-funcs.ensures in
    let k = from-slices (λ s b. next_nodes s before.statements.items b) before.nodes.items design.signals c.as_slice-signals.result.now design.funcs c.as_slice-funcs.result.now next.nodes.items c.in_ok-next.ensures.nodes c.as_slice-signals.ensures c.as_slice-funcs.ensures in
    let m : c.loop-round._round + 1 ≡ suc c.loop-round._round = omega arith in
    round-is design c.requires c.loop-round._round (c.loop-round._round + 1) before.statements.items before.nodes.items next.statements.items next.nodes.items c.loop-round.invariant h k m
