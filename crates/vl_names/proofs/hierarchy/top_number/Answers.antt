use Rattle.std.proofs.Common.{◌≡◌, ℕ, ◌<◌, length, map, IfOk, Option, Some, sym, ap, ◌∙◌, subst}
use Rattle.std.specs.Prelude.{IfSome}
use Rattle.std.proofs.lemmas.List.{length-map}
use Rattle.vl_scope.specs.vl_tree.specs.Hierarchy.{steps_of, module_number, graph_of, first_top}
use Rattle.vl_names.specs.Walks.{IsWithin}
use Rattle.vl_names.proofs.Graph.{graph-within}
use Rattle.vl_names.proofs.hierarchy.top_number.Goals as goal

pub first_of_tops-requires : goal.first_of_tops-requires
first_of_tops-requires c =
    let s = c.args.source.now in
    let seen : c.deref.result.now ≡ graph_of s = c.deref.ensures.value ∙ c.in_ok-graph.ensures ∙ ap (λ number. map (steps_of number) s.modules) c.in_ok-numbers.ensures.numbers in
    subst IsWithin (sym seen) (graph-within s)

pub returns-clause-number : goal.returns-clause-number
returns-clause-number c =
    let s = c.args.source.now in
    let seen : c.deref.result.now ≡ graph_of s = c.deref.ensures.value ∙ c.in_ok-graph.ensures ∙ ap (λ number. map (steps_of number) s.modules) c.in_ok-numbers.ensures.numbers in
    subst (λ g. IfOk c.first_of_tops.result (λ k. k ≡ first_top g)) seen c.first_of_tops.ensures.number

pub returns-clause-within : goal.returns-clause-within
returns-clause-within c =
    let s = c.args.source.now in
    let seen : c.deref.result.now ≡ graph_of s = c.deref.ensures.value ∙ c.in_ok-graph.ensures ∙ ap (λ number. map (steps_of number) s.modules) c.in_ok-numbers.ensures.numbers in
    let all : length c.deref.result.now ≡ length s.modules = ap length seen ∙ length-map s.modules (steps_of (module_number s)) in
    subst (λ n. IfOk c.first_of_tops.result (λ k. IfSome k (λ i. i < n))) all c.first_of_tops.ensures.within
