use Rattle.std.proofs.Common.{◌≡◌, ◌<◌, ℕ, [], get_or, ◌∙◌, sym, subst, refl, arith}
use Rattle.std.proofs.lemmas.List.{get_or_default}
use Rattle.vl_scope.specs.Faults.{In}
use Rattle.vl_names.specs.Walks.{rank}
use Rattle.vl_names.proofs.Bounded.{cyclic-not}
use Rattle.vl_names.proofs.Walks.{no_way_back}
use Rattle.vl_names.proofs.itself.contains_itself.Goals as goal

pub returns-then-are_below : goal.returns-then-are_below
returns-then-are_below c =
    let graph = c.args.graph.now in
    let node = c.args.node in
    let ranks = c.args.ranks.now in
    let steps : c.as_slice.result.now ≡ get_or graph node [] = c.as_slice.ensures ∙ c.index-graph-node.is ∙ get_or_default graph node _ [] c.requires.node in
    let below : (k : ℕ) → In k (get_or graph node []) → rank ranks k < rank ranks node = λ k step. omega (arith, c.if-are_below.ensures refl k (subst (In k) (sym steps) step), c.rank.ensures) in
    cyclic-not graph node (no_way_back graph ranks node (c.requires.falling c.if-is_falling.true) below)
