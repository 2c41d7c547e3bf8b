use Rattle.std.proofs.Common.{◌≡◌, List, map, IfOk, sym, ap, ◌∙◌, subst}
use Rattle.vl_scope.specs.vl_tree.specs.declared.source_tree.Module.{Module}
use Rattle.vl_scope.specs.vl_tree.specs.Hierarchy.{steps_of, graph_of}
use Rattle.vl_scope.specs.Faults.{earliest}
use Rattle.vl_names.specs.HierarchyFaults.{graph_faults}
use Rattle.vl_names.specs.Walks.{IsWithin}
use Rattle.vl_names.proofs.Graph.{graph-within}
use Rattle.vl_names.proofs.hierarchy.note_hierarchy.Goals as goal

pub note_graph-requires-clause-within : goal.note_graph-requires-clause-within
note_graph-requires-clause-within c =
    let s = c.args.source.now in
    let seen : c.deref.result.now ≡ graph_of s = c.deref.ensures.value ∙ c.in_ok-graph.ensures ∙ ap (λ number. map (steps_of number) s.modules) c.requires in
    subst IsWithin (sym seen) (graph-within s)

pub returns : goal.returns
returns c =
    let s = c.args.source.now in
    let best = c.args.best in
    let seen : c.deref.result.now ≡ graph_of s = c.deref.ensures.value ∙ c.in_ok-graph.ensures ∙ ap (λ number. map (steps_of number) s.modules) c.requires in
    let modules : c.as_slice.result.now ≡ s.modules = c.as_slice.ensures in
    subst (λ (ms : List Module). IfOk c.note_graph.result (λ r. r ≡ earliest best (graph_faults (graph_of s) ms))) modules
    (subst (λ g. IfOk c.note_graph.result (λ r. r ≡ earliest best (graph_faults g c.as_slice.result.now))) seen c.note_graph.ensures)
