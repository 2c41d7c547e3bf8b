use Rattle.std.proofs.Common.{sym, ap, ◌∙◌, ℕ, List, map}
use Rattle.vl_cost.specs.Walks.{next_cells}
use Rattle.vl_cost.proofs.Rounds.{slice-loopless}
use Rattle.vl_cost.proofs.Settled.{passed-are}
use Rattle.vl_cost.proofs.bodies.bodies_of.Goals as goal

pub passed-requires : goal.passed-requires
passed-requires c = slice-loopless c.args.design.now c.requires c.as_slice-funcs.result.now c.as_slice-funcs.ensures

pub next_bodies-requires : goal.next_bodies-requires
next_bodies-requires c = slice-loopless c.args.design.now c.requires c.as_slice-funcs.result.now c.as_slice-funcs.ensures

pub returns-then-is_same : goal.returns-then-is_same
returns-then-is_same c =
    let funcs = c.as_slice-funcs.result.now in
    passed-are c.args.design.now c.requires funcs c.in_ok-all.all.items c.in_ok-next.next.items c.as_slice-funcs.ensures c.in_ok-all.ensures
    (c.in_ok-next.ensures ∙ ap (λ (z : List ℕ). map (next_cells z) funcs) c.deref.ensures.value)
    (sym c.deref-2.ensures.value ∙ (c.is_same.ensures c.if-is_same.true ∙ c.deref-3.ensures.value))
