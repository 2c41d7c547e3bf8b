use Rattle.std.proofs.Common.{subst, sym, ◌∙◌, arith}
use Rattle.std.specs.Prelude.{All, Vec}
use Rattle.std.specs.declared.alloc.Global.{Global}
use Rattle.std.specs.declared.snapshot.Snapshot.{Snapshot}
use Rattle.fab_core.specs.fab_model.specs.Tokens.{token_of}
use Rattle.fab_desk.specs.fab_bay.specs.declared.leaving.Leaving.{Leaving}
use Rattle.fab_orders.specs.declared.outcomes.Start.{Start}
use Rattle.fab_rounds.specs.Ledgers.{IsLeft}
use Rattle.fab_rounds.proofs.Taken.{all_pop}
use Rattle.fab_orders.proofs.Totals.{total_pop}
use Rattle.fab_rounds.proofs.ledgers.Ledger.take_pile.Goals as goal

pub take_one-requires-clause-left : goal.take_one-requires-clause-left
take_one-requires-clause-left c = (all_pop (IsLeft c.loop-leaving.self.loaded.value.items) c.loop-leaving.pile.items c.pop.new.self.items c.in-Some.leaving c.in-Some.ensures.items c.loop-leaving.invariant.left).1

pub loop-leaving-preserved : goal.loop-leaving-preserved
loop-leaving-preserved c = let v = c.loop-leaving.invariant in let t = c.in_ok-take_one.ensures in
    let left = (all_pop (IsLeft c.loop-leaving.self.loaded.value.items) c.loop-leaving.pile.items c.pop.new.self.items c.in-Some.leaving c.in-Some.ensures.items v.left).0 in record {
      kept = t.kept;
      left = subst (λ (s : Snapshot (Vec Start Global)). All (IsLeft s.value.items) c.pop.new.self.items) (sym t.same.0) left;
      same = (t.same.0 ∙ v.same.0, t.same.1 ∙ v.same.1, t.same.2 ∙ v.same.2);
      answers = (t.answers.0 ∙ v.answers.0, t.answers.1 ∙ v.answers.1);
      firsts = t.firsts ∙ v.firsts;
      sums = λ f. omega (arith, v.sums f, t.sums f, total_pop (λ (l : Leaving). f (token_of l.transit)) c.loop-leaving.pile.items c.pop.new.self.items c.in-Some.leaving c.in-Some.ensures.items);
    }
