use Rattle.std.proofs.Common.{◌<◌, length, arith}
use Rattle.cell_level.specs.Nets as spec
use Rattle.cell_level.proofs.Walk.{each_left, all_done, left_below}
use Rattle.cell_level.proofs.Edges.{levelled, on_cycle_below}
use Rattle.cell_level.proofs.orders.walk_all.Goals as goal

pub returns-clause-ordered : goal.returns-clause-ordered
returns-clause-ordered c f =
    let v = c.loop-root.walk in
    record {
      once = each_left (spec.Edge c.args.nets.now) (length c.args.nets.now) v.seen.items v.done.items v.order.items v.cyclic c.loop-root.invariant.walks
          (λ x l. c.loop-root.invariant.seen x (omega (arith, l, c.loop-root-test.false)));
      levelled = levelled c.args.nets.now v.order.items (c.loop-root.invariant.walks.ordered f);
    }

pub returns-clause-acyclic : goal.returns-clause-acyclic
returns-clause-acyclic c f x cycle =
    let v = c.loop-root.walk in
    let l : x < length c.args.nets.now = on_cycle_below c.args.nets.now x cycle in
    c.loop-root.invariant.walks.off f x
    (all_done (spec.Edge c.args.nets.now) (length c.args.nets.now) v.seen.items v.done.items v.order.items v.cyclic c.loop-root.invariant.walks x
    (c.loop-root.invariant.seen x (omega (arith, l, c.loop-root-test.false))))
    cycle

pub returns-clause-within : goal.returns-clause-within
returns-clause-within c =
    let v = c.loop-root.walk in
    left_below (spec.Edge c.args.nets.now) (length c.args.nets.now) v.seen.items v.done.items v.order.items _ v.cyclic c.loop-root.invariant.walks
