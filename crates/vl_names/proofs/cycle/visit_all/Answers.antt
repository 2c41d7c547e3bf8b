use Rattle.std.proofs.Common.{◌<◌, take, get_or, length, sym, subst, arith}
use Rattle.std.proofs.lemmas.List.{get_or_default}
use Rattle.vl_names.specs.Walks.{Visits}
use Rattle.vl_names.proofs.Steps.{next_of}
use Rattle.vl_names.proofs.Walks.{In-get_or, visits-then}
use Rattle.vl_names.proofs.cycle.visit_all.Goals as goal

pub visit-requires : goal.visit-requires
visit-requires c =
    let nodes = c.args.nodes.now in
    let i = c.loop-node.node-index in
    let node = get_or nodes i 0 in
    let below : i < length nodes = omega arith in
    omega (arith, c.requires node (In-get_or nodes i node below (get_or_default nodes i 0 node below)), c.loop-node.invariant.same_length)

pub loop-node-preserved : goal.loop-node-preserved
loop-node-preserved c =
    let nodes = c.args.nodes.now in
    let i = c.loop-node.node-index in
    let node = get_or nodes i 0 in
    let below : i < length nodes = omega arith in
    subst (λ l. Visits l c.args.marks.now.items c.args.pile.now.items c.visit.new.marks.items c.visit.new.pile.items) (sym (next_of nodes i node below (get_or_default nodes i 0 node below)))
    (visits-then (take i nodes) node _ _ _ _ _ _ c.loop-node.invariant c.in_ok-visit.ensures)
