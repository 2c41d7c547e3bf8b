use Rattle.std.proofs.Common.{◌≡◌, ◌≤◌, ◌+◌, suc, sym, ◌∙◌, length, arith}
use Rattle.vl_design.specs.Trees.{flat_of}
use Rattle.vl_cost.proofs.Rounds.{from-slice, slice-loopless, all-rounds, round-is, stays-to}
use Rattle.vl_cost.proofs.bodies.rounds_of.Goals as goal

pub next_bodies-requires : goal.next_bodies-requires
next_bodies-requires c = slice-loopless c.args.design.now c.requires c.as_slice-funcs.result.now c.as_slice-funcs.ensures

pub returns-then-is_same : goal.returns-then-is_same
returns-then-is_same c =
    let design = c.args.design.now in
    let before = c.loop-round.all.items in
    let next = c.in_ok-next.next.items in
    let h = from-slice before c.deref.result.now design.funcs c.as_slice-funcs.result.now next c.in_ok-next.ensures c.deref.ensures.value c.as_slice-funcs.ensures in
    let all = all-rounds design c.as_slice-funcs.result.now c.as_slice-funcs.ensures in
    let test = c.loop-round-test.true in
    let within : c.loop-round._round ≤ length (flat_of design).funs = omega (arith, all, test) in
    stays-to design c.requires c.loop-round._round (length (flat_of design).funs) before next c.loop-round.invariant h
    (sym c.deref-in-loop-round.ensures.value ∙ (c.is_same.ensures c.if-is_same.true ∙ c.deref-in-loop-round-2.ensures.value))
    within

pub loop-round-preserved : goal.loop-round-preserved
loop-round-preserved c =
    let design = c.args.design.now in
    let before = c.loop-round.all.items in
    let next = c.in_ok-next.next.items in
    let h = from-slice before c.deref.result.now design.funcs c.as_slice-funcs.result.now next c.in_ok-next.ensures c.deref.ensures.value c.as_slice-funcs.ensures in
    let m : c.loop-round._round + 1 ≡ suc c.loop-round._round = omega arith in
    round-is design c.requires c.loop-round._round (c.loop-round._round + 1) before next c.loop-round.invariant h m
