use Rattle.std.proofs.Common.{◌<◌, length, sym, ◌∙◌, subst, arith}
use mathlib.Core.Logic.{inl, inr}
use Rattle.cell_level.specs.Cycles.{IsOnCycle}
use Rattle.cell_level.specs.Nets as spec
use Rattle.cell_level.proofs.Marking.{either}
use Rattle.cell_level.proofs.Search.{off}
use Rattle.cell_level.proofs.Edges.{on_cycle_below}
use Rattle.cell_level.proofs.cycles.lowest.Goals as goal
use Rattle.cell_level.proofs.cycles.lowest.Goals.{then-not-is_on+in_ok-seen+in_ok-way+in_default, else-not-is_on}

pub loop-net-preserved : goal.loop-net-preserved
loop-net-preserved c p l =
    let E = spec.Edge c.args.nets.now in
    let net = c.loop-net.net in
    let here : IsOnCycle E net → ⊥ = elim c.if-not-is_on.branch [
      | then-not-is_on+in_ok-seen+in_ok-way+in_default w ↦ off E net w.search.new.seen.items (w.in_ok-way.ensures.closed w.in_default.is) (w.in_ok-way.ensures.kept w.in_default.is ∙ w.in_ok-seen.ensures.off net)
      | else-not-is_on w ↦ c.requires.off net (sym c.is_on.ensures ∙ w.if-not-is_on.false)
    ] in
    elim (either p net) [
      | inl k ↦ subst (λ z. IsOnCycle E z → ⊥) (sym k) here
      | inr d ↦ c.loop-net.invariant p (omega (arith, l, d))
    ]

pub unreachable-requires : goal.unreachable-requires
unreachable-requires c =
    let cycle = c.requires.cyclic in
    let l : cycle.0 < length c.args.nets.now = on_cycle_below c.args.nets.now cycle.0 cycle.1 in
    c.loop-net.invariant cycle.0 (omega (arith, l, c.loop-net-test.false)) cycle.1
