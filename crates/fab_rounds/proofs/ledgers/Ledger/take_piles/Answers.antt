use Rattle.std.proofs.Common.{subst, sym, ◌∙◌, arith}
use Rattle.std.specs.Prelude.{All, Vec}
use Rattle.std.specs.declared.alloc.Global.{Global}
use Rattle.std.specs.declared.snapshot.Snapshot.{Snapshot}
use Rattle.fab_desk.specs.fab_bay.specs.declared.leaving.Leaving.{Leaving}
use Rattle.fab_orders.specs.declared.outcomes.Start.{Start}
use Rattle.fab_rounds.specs.Ledgers.{leaving_sum, AreLeft, IsLeft}
use Rattle.fab_rounds.proofs.Taken.{all_pop}
use Rattle.fab_orders.proofs.Totals.{total_pop}
use Rattle.fab_rounds.proofs.ledgers.Ledger.take_piles.Goals as goal

pub take_pile-requires-clause-left : goal.take_pile-requires-clause-left
take_pile-requires-clause-left c = (all_pop (λ (v : Vec Leaving Global). All (IsLeft c.loop-pile.self.loaded.value.items) v.items) c.loop-pile.piles.items c.pop.new.self.items c.in-Some.pile c.in-Some.ensures.items c.loop-pile.invariant.left).1

pub loop-pile-preserved : goal.loop-pile-preserved
loop-pile-preserved c = let v = c.loop-pile.invariant in let t = c.in_ok-take_pile.ensures in
    let left = (all_pop (λ (v : Vec Leaving Global). All (IsLeft c.loop-pile.self.loaded.value.items) v.items) c.loop-pile.piles.items c.pop.new.self.items c.in-Some.pile c.in-Some.ensures.items v.left).0 in record {
      kept = t.kept;
      left = subst (λ (s : Snapshot (Vec Start Global)). AreLeft s.value.items c.pop.new.self.items) (sym t.same.0) left;
      same = (t.same.0 ∙ v.same.0, t.same.1 ∙ v.same.1, t.same.2 ∙ v.same.2);
      answers = (t.answers.0 ∙ v.answers.0, t.answers.1 ∙ v.answers.1);
      firsts = t.firsts ∙ v.firsts;
      sums = λ f. omega (arith, v.sums f, t.sums f, total_pop (λ (v : Vec Leaving Global). leaving_sum f v.items) c.loop-pile.piles.items c.pop.new.self.items c.in-Some.pile c.in-Some.ensures.items);
    }
