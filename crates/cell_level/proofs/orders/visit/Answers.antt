use Rattle.std.proofs.Common.{◌≡◌, [], ◌∷◌, ◌++◌, length, sym, ap, ◌∙◌, subst}
use Rattle.cell_level.specs.Nets as spec
use Rattle.cell_level.specs.Walks.{on, IsWay, Back, Walking}
use Rattle.cell_level.proofs.Marking.{marked_kept}
use Rattle.cell_level.proofs.Walk.{entered, end_below}
use Rattle.cell_level.proofs.Ways.{way_shorter, way_longer}
use Rattle.cell_level.proofs.orders.visit.Goals as goal

pub unmarked_driver-requires-clause-net : goal.unmarked_driver-requires-clause-net
unmarked_driver-requires-clause-net c =
    let E = spec.Edge c.args.nets.now in
    let n = length c.args.nets.now in
    let v = c.visit.walk in
    end_below E n v.seen.items v.done.items v.order.items c.pop.new.self.items v.cyclic c.in-Some.net
    (subst (λ xs. Walking E n v.seen.items v.done.items v.order.items xs v.cyclic) c.in-Some.ensures.items c.visit.invariant.walks)

pub leave-requires-clause-net : goal.leave-requires-clause-net
leave-requires-clause-net c =
    let E = spec.Edge c.args.nets.now in
    let n = length c.args.nets.now in
    let v = c.visit.walk in
    end_below E n v.seen.items v.done.items v.order.items c.pop.new.self.items v.cyclic c.in-Some.net
    (subst (λ xs. Walking E n v.seen.items v.done.items v.order.items xs v.cyclic) c.in-Some.ensures.items c.visit.invariant.walks)

pub visit-preserved-in-Continue-branch-3 : goal.visit-preserved-in-Continue-branch-3
visit-preserved-in-Continue-branch-3 c =
    let E = spec.Edge c.args.nets.now in
    let n = length c.args.nets.now in
    let v = c.visit.walk in
    let rest = c.pop.new.self.items in
    let net = c.in-Some.net in
    let next = c.in-Some-unmarked_driver.next in
    let seen = c.mark-in-Some-unmarked_driver.new.flags.items in
    let m = c.mark-in-Some-unmarked_driver.ensures.marked in
    let found = c.in-Some-unmarked_driver.ensures.some in
    let stack : c.push-in-Some-unmarked_driver-2.new.self.items ≡ (rest ++ net ∷ []) ++ next ∷ [] =
    c.in_ok-push-in-Some-unmarked_driver-2.ensures.items ∙ ap (λ xs. xs ++ next ∷ []) c.in_ok-push-in-Some-unmarked_driver.ensures.items in
    let walks = subst (λ xs. Walking E n v.seen.items v.done.items v.order.items xs v.cyclic) c.in-Some.ensures.items c.visit.invariant.walks in
    let way = subst (λ xs. IsWay (Back E) xs) c.in-Some.ensures.items c.visit.invariant.way in
    record {
      walks = subst (λ xs. Walking E n seen v.done.items v.order.items xs v.cyclic) (sym stack)
          (entered E n v.seen.items seen v.done.items v.order.items (rest ++ net ∷ []) v.cyclic next walks found.0 m c.mark-in-Some-unmarked_driver.ensures.long);
      way = subst (λ xs. IsWay (Back E) xs) (sym stack) (way_longer (Back E) rest net next way found.1);
      root = marked_kept v.seen.items seen next m c.args.root c.visit.invariant.root;
      kept = λ x h. marked_kept v.seen.items seen next m x (c.visit.invariant.kept x h);
    }

pub visit-preserved : goal.visit-preserved
visit-preserved c =
    let E = spec.Edge c.args.nets.now in
    let n = length c.args.nets.now in
    let v = c.visit.walk in
    let rest = c.pop.new.self.items in
    let net = c.in-Some.net in
    let walks = subst (λ xs. Walking E n v.seen.items v.done.items v.order.items xs v.cyclic) c.in-Some.ensures.items c.visit.invariant.walks in
    let way = subst (λ xs. IsWay (Back E) xs) c.in-Some.ensures.items c.visit.invariant.way in
    let same = c.in_ok-leave-in-None.ensures.seen in
    record {
      walks = c.in_ok-leave-in-None.ensures.walks rest walks way;
      way = way_shorter (Back E) rest net way;
      root = ap (λ s. on s c.args.root) same ∙ c.visit.invariant.root;
      kept = λ x h. ap (λ s. on s x) same ∙ c.visit.invariant.kept x h;
    }
