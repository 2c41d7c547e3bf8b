use Rattle.std.proofs.Common.{rules, List, ap, sym, ◌∙◌, subst}
use Rattle.std.specs.Prelude.{Vec}
use Rattle.std.specs.declared.alloc.Global.{Global}
use Rattle.fab_orders.specs.declared.outcomes.Start.{Start}
use Rattle.fab_rounds.specs.Ledgers.{DeskFacts, IsBetween, IsLedger, Operates}
use Rattle.fab_rounds.proofs.Between.{operated_between, started}
use Rattle.fab_rounds.proofs.rounds.run.Goals as goal

pub rounds_of-requires-after_bounds : goal.rounds_of-requires-after_bounds
rounds_of-requires-after_bounds g c = λ κs h. let b = c.in_ok-ledger.ensures in let p = c.in_ok-ledger-2.ensures in
    started c.deref-2.result.now c.in_ok-desks.field-0 c.in_ok-ledger.ledger c.in_ok-ledger-2.ledger c.args.starts.items c.deref-2.ensures.value c.in_ok-desks.ensures.seated b.kept
    (subst (λ (ds : List DeskFacts). IsLedger ds c.in_ok-ledger-2.ledger) (c.deref.ensures.value ∙ sym c.deref-2.ensures.value) p.ledger) p.same p.answers p.sums p.none b.firsts (ap (λ (v : Vec Start Global). v.items) b.loaded) b.none b.sums p.there

pub closed-requires-clause-between : goal.closed-requires-clause-between
closed-requires-clause-between g c =
    let b : IsBetween c.in_ok-desks.field-0.desks.items c.in_ok-ledger-3.ledger c.in_ok-ledger-3.workers.items = search rules in
    let o : Operates c.in_ok-desks.field-0.desks.items c.in_ok-ledger-3.ledger c.in_ok-ledger-4.ledger = search rules in
    operated_between c.in_ok-desks.field-0.desks.items c.in_ok-ledger-3.ledger c.in_ok-ledger-4.ledger c.in_ok-ledger-3.workers.items b o
