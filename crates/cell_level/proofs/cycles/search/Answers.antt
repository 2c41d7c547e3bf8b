use Rattle.std.proofs.Common.{◌≡◌, [], ◌∷◌, ◌++◌, sym, ap, ◌∙◌, subst}
use Rattle.cell_level.specs.Cycles.{IsCycle}
use Rattle.cell_level.specs.Nets as spec
use Rattle.cell_level.proofs.Search.{Searching, left, further, kept, came_back}
use Rattle.cell_level.proofs.cycles.search.Goals as goal

pub returns-then-next-start-clause-found : goal.returns-then-next-start-clause-found
returns-then-next-start-clause-found c =
    let E = spec.Edge c.args.nets.now in
    let start = c.args.start in
    let seen = c.search.seen.items in
    let s = subst (λ xs. Searching E start seen xs) c.in-Some.ensures.items c.search.invariant.searches in
    subst (λ xs. IsCycle E start xs) (sym c.in_ok-push-2.ensures.items)
    (came_back E start seen c.pop.new.self.items c.in-Some.net s (subst (λ x. E c.in-Some.net x) c.if-next-start.true c.in-Some-unmarked_reader.ensures.some.1))

pub search-preserved-in-Some-unmarked_reader : goal.search-preserved-in-Some-unmarked_reader
search-preserved-in-Some-unmarked_reader c =
    let E = spec.Edge c.args.nets.now in
    let start = c.args.start in
    let seen = c.search.seen.items in
    let seen' = c.mark.new.flags.items in
    let rest = c.pop.new.self.items in
    let net = c.in-Some.net in
    let next = c.in-Some-unmarked_reader.next in
    let found = c.in-Some-unmarked_reader.ensures.some in
    let s = subst (λ xs. Searching E start seen xs) c.in-Some.ensures.items c.search.invariant.searches in
    let stack : c.push-in-Some-unmarked_reader-2.new.self.items ≡ (rest ++ net ∷ []) ++ next ∷ [] =
    c.in_ok-push-3.ensures.items ∙ ap (λ xs. xs ++ next ∷ []) c.in_ok-push-2.ensures.items in
    record {
      long = c.mark.ensures.long ∙ c.search.invariant.long;
      searches = subst (λ xs. Searching E start seen' xs) (sym stack) (further E start seen seen' rest net next s found.1 found.0 c.if-next-start.false c.mark.ensures.marked);
      kept = kept E start seen seen' next c.if-next-start.false c.mark.ensures.marked ∙ c.search.invariant.kept;
    }

pub search-preserved : goal.search-preserved
search-preserved c =
    let E = spec.Edge c.args.nets.now in
    let start = c.args.start in
    let seen = c.search.seen.items in
    let s = subst (λ xs. Searching E start seen xs) c.in-Some.ensures.items c.search.invariant.searches in
    record {
      long = c.search.invariant.long;
      searches = left E start seen c.pop.new.self.items c.in-Some.net s (c.unmarked_reader.ensures.none c.in_default-unmarked_reader.is);
      kept = c.search.invariant.kept;
    }
