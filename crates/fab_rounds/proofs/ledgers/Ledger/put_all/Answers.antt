use Rattle.std.proofs.Common.{rules, ◌≤◌, List, [], ◌∷◌, ◌++◌, append-nil, append_assoc, sym, ap, ◌∙◌, arith}
use Rattle.std.specs.Prelude.{Vec}
use Rattle.std.specs.declared.alloc.Global.{Global}
use Rattle.std.proofs.lemmas.List.Elements.{All-cons, All-nil, All-weaker}
use Rattle.fab_core.specs.ten_parcel.specs.Parcels.{number_of, ticks_of}
use Rattle.fab_core.specs.fab_model.specs.declared.transit.Transit.{Transit}
use Rattle.fab_core.specs.fab_model.specs.Tokens.{token_of}
use Rattle.fab_rounds.specs.declared.ledgers.Moving.{Moving}
use Rattle.fab_rounds.specs.Ledgers.{moving_sum, reach_in, transit_sum}
use Rattle.fab_orders.proofs.Totals.{total_pop}
use Rattle.fab_rounds.proofs.ledgers.Ledger.put_all.Goals as goal

pub loop-next-init : goal.loop-next-init
loop-next-init g c = record {
  ledger = c.requires;
  same = search rules;
  sums = search rules;
  answers = search rules;
  reach = λ t. omega arith;
  there = ([], sym (append-nil c.args.self.moving.items), All-nil (λ (m : Moving). ticks_of m.transit.parcel ≤ reach_in (number_of m.transit.parcel) c.args.self.firsts.items));
}

pub loop-next-preserved : goal.loop-next-preserved
loop-next-preserved g c = let v = c.loop-next.invariant in let p = c.in_ok-put_one.ensures in let next = c.in-Some.next in let put = v.there.0 in
    let now = c.put_one.new.self in record {
      ledger = p.ledger;
      same = (p.same.0 ∙ v.same.0, p.same.1 ∙ v.same.1, p.same.2 ∙ v.same.2);
      sums = λ f. let s = (v.sums f).0 in (
        omega (
          arith,
          s,
          p.puts f,
          ap (λ (x : Vec Moving Global). moving_sum f x.items) p.moving,
          ap (λ (x : Vec Transit Global). transit_sum f x.items) p.done,
          total_pop (λ (x : Moving). f (token_of x.transit)) c.loop-next.ledger.moving.items c.pop.new.self.items c.in-Some.next c.in-Some.ensures.items,
        ),
        p.outs f ∙ (v.sums f).1,
      );
      answers = (p.answers.0 ∙ v.answers.0, p.answers.1 ∙ v.answers.1);
      reach = λ t. let a = v.reach t in let b = p.reach t in omega (arith, a, b);
      there = (
        next ∷ put,
        v.there.1
            ∙ ap (λ (l : List Moving). l ++ put) c.in-Some.ensures.items
            ∙ append_assoc c.pop.new.self.items (next ∷ []) put
            ∙ ap (λ (x : Vec Moving Global). x.items ++ next ∷ put) (sym p.moving),
        All-cons (λ (m : Moving). ticks_of m.transit.parcel ≤ reach_in (number_of m.transit.parcel) now.firsts.items) next put p.there
            (All-weaker (λ (m : Moving). ticks_of m.transit.parcel ≤ reach_in (number_of m.transit.parcel) c.loop-next.ledger.firsts.items) (λ (m : Moving). ticks_of m.transit.parcel ≤ reach_in (number_of m.transit.parcel) now.firsts.items)
            (λ m h. let b = p.reach (number_of m.transit.parcel) in omega (arith, h, b)) put v.there.2),
      );
    }
