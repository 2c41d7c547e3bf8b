use Rattle.std.proofs.Common.{sym, ◌∙◌}
use Rattle.vl_limits.proofs.Rounds.{slices-heads}
use Rattle.vl_limits.proofs.Settled.{passed-are}
use Rattle.vl_limits.proofs.bodies.bodies_of.Goals as goal

pub passed-requires : goal.passed-requires
passed-requires c = slices-heads c.args.design.now c.requires c.as_slice-signals.result.now c.as_slice-funcs.result.now c.as_slice-signals.ensures c.as_slice-funcs.ensures

pub next_bodies-requires : goal.next_bodies-requires
next_bodies-requires c = record { heads = slices-heads c.args.design.now c.requires c.as_slice-signals.result.now c.as_slice-funcs.result.now c.as_slice-signals.ensures c.as_slice-funcs.ensures }

pub returns-then-is_same-2 : goal.returns-then-is_same-2
returns-then-is_same-2 c =
    let all = c.in_ok-all.all in
    let next = c.in_ok-next.next in
    passed-are c.args.design.now c.requires c.as_slice-signals.result.now c.as_slice-funcs.result.now all.statements.items all.nodes.items next.statements.items next.nodes.items c.as_slice-signals.ensures c.as_slice-funcs.ensures
    c.in_ok-all.ensures.statements c.in_ok-all.ensures.nodes c.in_ok-next.ensures.statements c.in_ok-next.ensures.nodes
    (sym c.deref.ensures.value ∙ (c.is_same.ensures c.if-is_same.true ∙ c.deref-2.ensures.value))
    (sym c.deref-then-is_same.ensures.value ∙ (c.is_same-then-is_same.ensures c.if-is_same-2.true ∙ c.deref-then-is_same-2.ensures.value))
