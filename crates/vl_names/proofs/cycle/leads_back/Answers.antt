use Rattle.std.proofs.Common.{◌≡◌, ◌<◌, ◌∷◌, [], get_or, length, false, sym, ◌∙◌, subst, arith, rules, inl, refl}
use Rattle.std.proofs.lemmas.List.{get_or_default}
use Rattle.std.proofs.lemmas.Grind.{common_steps}
use Rattle.vl_scope.specs.Faults.{In}
use Rattle.vl_scope.proofs.Members.{In-append_right}
use Rattle.vl_names.specs.Walks.{Searches, Visits}
use Rattle.vl_names.proofs.Bounded.{cyclic-is}
use Rattle.vl_names.proofs.Walks.{searches-turn, searches-end}
use Rattle.vl_names.proofs.cycle.leads_back.Goals as goal

pub bounds-graph-node : goal.bounds-graph-node
bounds-graph-node c =
    let node = c.in-Some.node in
    c.search.invariant.inside node (subst (In node) (sym c.in-Some.ensures.items) (In-append_right node c.pop.new.self.items (node ∷ []) (inl refl)))

pub offset_bounds-graph-node : goal.offset_bounds-graph-node
offset_bounds-graph-node c =
    let node = c.in-Some.node in
    let below : node < length c.args.graph.now = c.search.invariant.inside node (subst (In node) (sym c.in-Some.ensures.items) (In-append_right node c.pop.new.self.items (node ∷ []) (inl refl))) in
    search rules

pub visit_all-requires : goal.visit_all-requires
visit_all-requires c =
    let node = c.in-Some.node in
    let graph = c.args.graph.now in
    let below : node < length graph = c.search.invariant.inside node (subst (In node) (sym c.in-Some.ensures.items) (In-append_right node c.pop.new.self.items (node ∷ []) (inl refl))) in
    let steps : c.as_slice.result.now ≡ get_or graph node [] = c.as_slice.ensures ∙ c.index-graph-node.is ∙ get_or_default graph node _ [] below in
    λ k step. omega (arith, c.requires.within node k (subst (In k) steps step), c.search.invariant.same_length)

pub search-preserved : goal.search-preserved
search-preserved c =
    let node = c.in-Some.node in
    let graph = c.args.graph.now in
    let start = c.args.start in
    let marks = c.search.marks.items in
    let below : node < length graph = c.search.invariant.inside node (subst (In node) (sym c.in-Some.ensures.items) (In-append_right node c.pop.new.self.items (node ∷ []) (inl refl))) in
    let steps : c.as_slice.result.now ≡ get_or graph node [] = c.as_slice.ensures ∙ c.index-graph-node.is ∙ get_or_default graph node _ [] below in
    searches-turn graph start node marks _ c.pop.new.self.items _ c.requires.within
    (subst (Searches graph start marks) c.in-Some.ensures.items c.search.invariant)
    (subst (λ l. Visits l marks c.pop.new.self.items c.visit_all.new.marks.items c.visit_all.new.pile.items) steps c.in_ok-visit_all.ensures)

pub returns : goal.returns
returns c =
    let empty : c.search.pile.items ≡ [] = grind (arith, common_steps) in
    let marks = c.search.marks.items in
    let start = c.args.start in
    let below : start < length marks = omega (arith, c.search.invariant.same_length, c.requires.start) in
    let read : c.index.result.now ≡ get_or marks start false = c.index.ensures ∙ get_or_default marks start _ _ below in
    let law = searches-end c.args.graph.now start marks (subst (Searches c.args.graph.now start marks) empty c.search.invariant) in
    read ∙ cyclic-is c.args.graph.now start (get_or marks start false) law
