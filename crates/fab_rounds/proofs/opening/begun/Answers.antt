use Rattle.std.proofs.Common.{◌≡◌, ◌<◌, ◌≤◌, length, map, reverse, List, [], ◌∷◌, ◌++◌, append-nil, append_assoc, refl, sym, ap, ◌∙◌, subst, arith}
use Rattle.std.specs.Prelude.{All, Vec}
use Rattle.std.specs.declared.alloc.Global.{Global}
use Rattle.std.specs.declared.snapshot.Snapshot.{Snapshot}
use Rattle.std.proofs.lemmas.List.{reverse-reverse}
use Rattle.std.proofs.lemmas.List.Elements.{All-nil}
use Rattle.fab_core.specs.fab_model.specs.declared.note.Note.{Note}
use Rattle.fab_core.specs.fab_model.specs.Tokens.{outs, puts, token_of}
use Rattle.fab_orders.specs.declared.outcomes.Answer.{Answer}
use Rattle.fab_orders.specs.declared.outcomes.Order.{Order}
use Rattle.fab_orders.specs.declared.outcomes.Start.{Start}
use Rattle.fab_orders.specs.Totals.{total}
use Rattle.fab_orders.specs.Starts.{AreLabels, AreStarts}
use Rattle.fab_orders.specs.Outcomes.{cause_of, IsCause}
use Rattle.fab_orders.specs.Orders.{ended_by, found_by, put_by, ticks_told, AreAbove, AreOrders, IsOrder}
use Rattle.fab_rounds.specs.Ledgers.{fabric_in, found_there, moving_sum, put_there, reach_in, transit_sum, AreSoundAnswers, DeskSeatFacts, HasEnded, IsMoving, IsSound}
use Rattle.fab_rounds.proofs.Opens.{start_at}
use Rattle.fab_rounds.proofs.Taken.{all_reverse}
use Rattle.fab_orders.proofs.Totals.{total_all, total_pop}
use Rattle.fab_rounds.proofs.opening.begun.Goals as goal

pub loop-start-init : goal.loop-start-init
loop-start-init c =
    let e = c.of.ensures in let labels = c.args.labels.value.items in let loaded = c.of.result.value.items in let asked = c.of-asked.ensures in
    let waiting : c.in_ok-waiting.waiting.items ≡ reverse c.args.orders.items = c.in_ok-waiting.ensures in
    let back : reverse c.in_ok-waiting.waiting.items ≡ c.args.orders.items = ap reverse waiting ∙ reverse-reverse c.args.orders.items in
    let none = c.new-4.ensures.items in record {
      kept = record {
        labels = subst (λ (s : Vec Start Global). AreLabels s.items labels) (sym e) c.requires.labels;
        starts = subst (λ (s : Vec Start Global). AreStarts labels s.items) (sym e) c.requires.starts;
        moving = subst (All (IsMoving loaded labels)) (sym c.new.ensures.items) (All-nil (IsMoving loaded labels));
        done = subst (All (HasEnded loaded c.new-4.result.items)) (sym c.new-2.ensures.items) (All-nil (HasEnded loaded c.new-4.result.items));
        causes = subst (All (IsCause loaded)) (sym c.new-3.ensures.items) (All-nil (IsCause loaded));
        caused = λ f. omega (
          arith,
          ap (total (cause_of f)) c.new-3.ensures.items,
          ap (total (put_by f)) none,
          total_all (λ (s : DeskSeatFacts). s.view.own ≡ []) (put_there f) (λ s q. ap (λ (l : List Note). total (f (fabric_in s.view.label)) (puts l)) q) c.args.firsts.items c.requires.fresh,
        );
        found = λ f. omega (
          arith,
          ap (total (found_by f)) none,
          total_all (λ (s : DeskSeatFacts). s.view.own ≡ []) (found_there f) (λ s q. ap (λ (l : List Note). total (f (fabric_in s.view.label)) (outs l)) q) c.args.firsts.items c.requires.fresh,
        );
        asked = ap (λ (l : List Answer). map (λ a. a.order.value) l ++ reverse c.in_ok-waiting.waiting.items) none ∙ back ∙ ap (λ (v : Vec Order Global). v.items) (sym asked);
        orders = subst (λ (s : Vec Start Global). AreOrders labels s.items c.in_ok-waiting.waiting.items) (sym e) (subst (AreOrders labels c.args.starts.items) (sym waiting) (all_reverse (IsOrder labels c.args.starts.items) c.args.orders.items c.requires.orders));
        answers = subst (AreSoundAnswers loaded c.new-3.result.items c.new-2.result.items) (sym none) (All-nil (λ (a : Answer). (a.order.value.tenant < length c.of.result.value.items) × IsSound c.of.result.value.items c.new-3.result.items c.new-2.result.items a.order.value.tenant a.order.value.wanted a.reached a.finding));
        over = λ f. omega (arith, ap (total (ended_by f)) none);
        far = λ t. subst (λ (l : List Answer). All (λ j. j ≤ reach_in t c.args.firsts.items) (ticks_told t l)) (sym none) (All-nil (λ j. j ≤ reach_in t c.args.firsts.items));
        watches = subst (AreAbove []) (sym none) tt;
      };
      firsts = refl;
      labels = refl;
      loaded = e;
      asked = asked;
      none = none;
      front = ([], sym (append-nil c.args.starts.items));
      sums = λ f. omega (arith, ap (moving_sum f) c.new.ensures.items, ap (transit_sum f) c.new-2.ensures.items);
    }

pub take_start-requires-clause-start : goal.take_start-requires-clause-start
take_start-requires-clause-start c = let v = c.loop-start.invariant in
    (start_at c.loop-start.ledger.labels.value.items c.loop-start.ledger.loaded.value.items c.pop.new.self.items v.front.0 c.in-Some.start v.kept.starts
    (ap (λ (s : Vec Start Global). s.items) v.loaded ∙ v.front.1 ∙ ap (λ (l : List Start). l ++ v.front.0) c.in-Some.ensures.items)).0

pub take_start-requires-clause-loaded : goal.take_start-requires-clause-loaded
take_start-requires-clause-loaded c = let v = c.loop-start.invariant in
    (start_at c.loop-start.ledger.labels.value.items c.loop-start.ledger.loaded.value.items c.pop.new.self.items v.front.0 c.in-Some.start v.kept.starts
    (ap (λ (s : Vec Start Global). s.items) v.loaded ∙ v.front.1 ∙ ap (λ (l : List Start). l ++ v.front.0) c.in-Some.ensures.items)).1

pub loop-start-preserved : goal.loop-start-preserved
loop-start-preserved c = let v = c.loop-start.invariant in let t = c.in_ok-take_start.ensures in record {
  kept = t.kept;
  firsts = t.firsts ∙ v.firsts;
  labels = t.same.1 ∙ v.labels;
  loaded = ap (λ (s : Snapshot (Vec Start Global)). s.value) t.same.0 ∙ v.loaded;
  asked = ap (λ (s : Snapshot (Vec Order Global)). s.value) t.same.2 ∙ v.asked;
  none = ap (λ (a : Vec Answer Global). a.items) t.answers.0 ∙ v.none;
  front = (c.in-Some.start ∷ v.front.0, v.front.1 ∙ ap (λ (l : List Start). l ++ v.front.0) c.in-Some.ensures.items ∙ append_assoc c.pop.new.self.items (c.in-Some.start ∷ []) v.front.0);
  sums = λ f. omega (arith, v.sums f, t.sums f, total_pop (λ (s : Start). f (token_of s.transit)) c.loop-start.starts.items c.pop.new.self.items c.in-Some.start c.in-Some.ensures.items);
}
