use Rattle.std.proofs.Common.{rules, ◌≡◌, ℕ, false, List, [], ◌∷◌, ◌++◌, length, map, append-nil, append_assoc, sym, ap, ◌∙◌, subst, arith}
use Rattle.std.specs.List.{insert}
use Rattle.std.specs.Prelude.{All}
use Rattle.std.proofs.lemmas.List.{map-append, nil_from_length}
use Rattle.std.proofs.lemmas.List.Elements.{All-cons, All-nil}
use Rattle.fab_desk.specs.fab_bay.specs.declared.noted.Label.{Label}
use Rattle.fab_desk.specs.fab_bay.specs.declared.noted.NotedCore.{NotedCore}
use Rattle.fab_rounds.specs.declared.workers.Worker.{Worker}
use Rattle.fab_orders.specs.Totals.{total}
use Rattle.fab_orders.specs.Orders.{reached_in}
use Rattle.fab_orders.specs.Outcomes.{lefts_there, lines_there}
use Rattle.fab_rounds.specs.Ledgers.{fabric_in, found_there, labels_of, put_there, reach_in, seat_outs, seat_puts, worker_outs, DeskFacts, IsFirst, IsWorker}
use Rattle.fab_rounds.proofs.Between.{never_any}
use Rattle.fab_rounds.proofs.Conserved.{outs_in, IsOneClosed}
use Rattle.fab_rounds.proofs.Ends.{outcome}
use Rattle.fab_rounds.proofs.Lists.{pair_pop}
use Rattle.fab_rounds.proofs.Reach.{reach_pop}
use Rattle.fab_rounds.proofs.Taken.{all_pop}
use Rattle.fab_orders.proofs.Totals.{total-append, total_pop}
use Rattle.fab_rounds.proofs.closing.closed.Goals as goal

-- the labels of the desks that are left and of the bays
labels_pop : (ds ds' : List DeskFacts) (desk : DeskFacts) (bays bays' : List NotedCore) (b : NotedCore) (labels : List Label) → ds ≡ ds' ++ desk ∷ [] → bays' ≡ b ∷ bays → b.label ≡ desk.label
    → labels_of ds ++ map (λ x. x.label) bays ≡ labels → labels_of ds' ++ map (λ x. x.label) bays' ≡ labels
labels_pop ds ds' desk bays bays' b labels p e s h =
    ap (λ (l : List NotedCore). labels_of ds' ++ map (λ x. x.label) l) e
    ∙ ap (λ (l : Label). labels_of ds' ++ l ∷ map (λ (x : NotedCore). x.label) bays) s
    ∙ sym (append_assoc (labels_of ds') (desk.label ∷ []) (map (λ (x : NotedCore). x.label) bays))
    ∙ ap (λ (l : List Label). l ++ map (λ (x : NotedCore). x.label) bays) (sym (map-append (λ (x : DeskFacts). x.label) ds' (desk ∷ [])))
    ∙ ap (λ (l : List DeskFacts). labels_of l ++ map (λ (x : NotedCore). x.label) bays) (sym p)
    ∙ h

pub loop-desk-init : goal.loop-desk-init
loop-desk-init g c = let b = c.requires.between in let e = c.new-bays.ensures.items in record {
  firsts = b.ledger.firsts;
  count = b.workers.count;
  workers = b.workers.each;
  any_puts = never_any c.args.desks.items c.args.ledger b.ledger;
  labels = ap (λ (l : List NotedCore). labels_of c.args.desks.items ++ map (λ x. x.label) l) e ∙ append-nil (labels_of c.args.desks.items) ∙ b.ledger.labels;
  closed = subst (All IsOneClosed) (sym e) (All-nil IsOneClosed);
  there = λ f. omega (arith, ap (total (lines_there f)) e);
  outs = ([], λ f. omega (arith, ap (total (outs_in f)) e));
  lefts = λ f. omega (arith, ap (total (lefts_there f)) e);
  reach = λ t. omega (arith, ap (reached_in t) e);
}

pub close_one-requires-clause-first : goal.close_one-requires-clause-first
close_one-requires-clause-first g c = let v = c.loop-desk.invariant in
    (pair_pop IsFirst c.loop-desk.desks.items c.pop.new.self.items c.in-Some.desk c.loop-desk.firsts.items c.pop-in-Some.new.self.items c.in-Some-pop.first c.in-Some.ensures.items c.in-Some-pop.ensures.items v.firsts.count v.firsts.each).1

pub close_one-requires-clause-other : goal.close_one-requires-clause-other
close_one-requires-clause-other g c = let v = c.loop-desk.invariant in
    (pair_pop IsWorker c.loop-desk.desks.items c.pop.new.self.items c.in-Some.desk c.loop-desk.workers.items c.pop-in-Some-2.new.self.items c.in-Some-pop-2.worker c.in-Some.ensures.items c.in-Some-pop-2.ensures.items v.count v.workers).1.seat

pub close_one-requires-clause-apart : goal.close_one-requires-clause-apart
close_one-requires-clause-apart g c = let v = c.loop-desk.invariant in
    (pair_pop IsWorker c.loop-desk.desks.items c.pop.new.self.items c.in-Some.desk c.loop-desk.workers.items c.pop-in-Some-2.new.self.items c.in-Some-pop-2.worker c.in-Some.ensures.items c.in-Some-pop-2.ensures.items v.count v.workers).1.apart

pub close_one-requires-clause-any_puts : goal.close_one-requires-clause-any_puts
close_one-requires-clause-any_puts g c = let v = c.loop-desk.invariant in
    (all_pop (λ (d : DeskFacts). d.label.any_puts ≡ false) c.loop-desk.desks.items c.pop.new.self.items c.in-Some.desk c.in-Some.ensures.items v.any_puts).1

pub loop-desk-preserved : goal.loop-desk-preserved
loop-desk-preserved g c = let v = c.loop-desk.invariant in
    let ds = c.loop-desk.desks.items in let ds' = c.pop.new.self.items in let desk = c.in-Some.desk in
    let fs = c.loop-desk.firsts.items in let fs' = c.pop-in-Some.new.self.items in let first = c.in-Some-pop.first in
    let ws = c.loop-desk.workers.items in let ws' = c.pop-in-Some-2.new.self.items in let w = c.in-Some-pop-2.worker in
    let bays = c.loop-desk.bays.items in let b = c.close_one.result in let shut = c.close_one.ensures.shut in
    let f = pair_pop IsFirst ds ds' desk fs fs' first c.in-Some.ensures.items c.in-Some-pop.ensures.items v.firsts.count v.firsts.each in
    let x = pair_pop IsWorker ds ds' desk ws ws' w c.in-Some.ensures.items c.in-Some-pop-2.ensures.items v.count v.workers in
    let any = all_pop (λ (d : DeskFacts). d.label.any_puts ≡ false) ds ds' desk c.in-Some.ensures.items v.any_puts in
    let e : c.insert.new.self.items ≡ insert bays 0 b = search rules in
    let here : fabric_in first.view.label ≡ b.label.fabric = ap fabric_in f.1.0.1 ∙ ap (λ (l : Label). l.fabric) (sym c.close_one.ensures.label) in record {
      firsts = record { count = f.2; each = f.0 };
      count = x.2;
      workers = x.0;
      any_puts = any.0;
      labels = labels_pop ds ds' desk bays c.insert.new.self.items b c.args.ledger.labels.value.items c.in-Some.ensures.items e c.close_one.ensures.label v.labels;
      closed = subst (All IsOneClosed) (sym e) (All-cons IsOneClosed b bays shut.closed v.closed);
      there = λ h. omega (
        arith,
        v.there h,
        total_pop (put_there h) fs fs' first c.in-Some-pop.ensures.items,
        ap (total (lines_there h)) e,
        shut.puts (h b.label.fabric),
        ap (λ (n : ℕ). seat_puts (h n) first) here,
      );
      outs = (
        shut.rest ++ v.outs.0,
        λ h. omega (
          arith,
          v.outs.1 h,
          total_pop (seat_outs h) fs fs' first c.in-Some-pop.ensures.items,
          total_pop (λ (y : Worker). seat_outs h y.seat) ws ws' w c.in-Some-pop-2.ensures.items,
          ap (total (outs_in h)) e,
          shut.outs h,
          total-append h shut.rest v.outs.0,
        ),
      );
      lefts = λ h. omega (
        arith,
        v.lefts h,
        total_pop (found_there h) fs fs' first c.in-Some-pop.ensures.items,
        ap (total (lefts_there h)) e,
        shut.outs (h b.label.fabric),
        ap (λ (n : ℕ). seat_outs (h n) first) here,
      );
      reach = λ t. let old = v.reach t in let far = shut.reach t in omega (arith, old, far, ap (reach_in t) c.in-Some-pop.ensures.items, reach_pop t fs' first, ap (reached_in t) e);
    }

pub returns : goal.returns
returns g c = let v = c.loop-desk.invariant in let b = c.requires.between in
    let zd : length c.loop-desk.desks.items ≡ 0 = search rules in
    let nd = nil_from_length c.loop-desk.desks.items zd in
    let nf = nil_from_length c.loop-desk.firsts.items (v.firsts.count ∙ zd) in
    let nw = nil_from_length c.loop-desk.workers.items (v.count ∙ zd) in
    outcome c.args.ledger c.args.workers.items c.loop-desk.bays v.outs.0 b.ledger.kept b.none c.requires.orders b.balanced c.requires.all
    (ap (λ (l : List DeskFacts). labels_of l ++ map (λ x. x.label) c.loop-desk.bays.items) (sym nd) ∙ v.labels)
    v.closed
    (λ f. omega (arith, v.there f, ap (total (put_there f)) nf))
    (λ f. omega (arith, v.outs.1 f, ap (total (seat_outs f)) nf, ap (worker_outs f) nw))
    (λ f. omega (arith, v.lefts f, ap (total (found_there f)) nf))
    (λ t. let far = v.reach t in omega (arith, far, ap (reach_in t) nf))
    b.outs
