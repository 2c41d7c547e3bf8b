use Rattle.std.proofs.Common.{◌≡◌, [], ◌++◌, IfOk, sym, ap, ◌∙◌, subst}
use Rattle.vl_scope.specs.vl_tree.specs.Hierarchy.{graph_of}
use Rattle.vl_scope.specs.Faults.{earliest, each_after}
use Rattle.vl_scope.proofs.Orders.{earliest-append}
use Rattle.vl_names.specs.HierarchyFaults.{repeated_fault, given_faults, graph_faults, hierarchy_faults}
use Rattle.vl_names.proofs.hierarchy.first_hierarchy_fault.Goals as goal

pub returns : goal.returns
returns c =
    let s = c.args.source.now in
    let best = c.args.best in
    let more = graph_faults (graph_of s) s.modules in
    let whole : earliest c.in_ok-best.best more ≡ earliest best (hierarchy_faults s) =
    ap (λ b. earliest b more) (c.in_ok-best.ensures ∙ ap (λ b. earliest b (given_faults s)) c.in_ok-numbers.ensures.best)
    ∙ sym (earliest-append (earliest best (each_after repeated_fault [] s.modules)) (given_faults s) more)
    ∙ sym (earliest-append best (each_after repeated_fault [] s.modules) (given_faults s ++ more)) in
    subst (λ y. IfOk c.note_hierarchy.result (λ r. r ≡ y)) whole c.note_hierarchy.ensures
