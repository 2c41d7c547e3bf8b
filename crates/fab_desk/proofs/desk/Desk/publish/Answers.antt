use Rattle.std.proofs.Common.{rules, ℕ, ◌≡◌, ◌<◌, ap, ap₂, sym, ◌∙◌, ◌++◌, List, get_or, refl, subst, max}
use Rattle.std.proofs.lemmas.List.{take_all}
use Rattle.fab_bay.specs.fab_lock.specs.declared.entry.Entry.{Entry}
use Rattle.fab_bay.specs.fab_lock.specs.Facts.{LockFacts}
use Rattle.fab_bay.specs.fab_lock.specs.Histories.{Reaches}
use Rattle.fab_bay.specs.declared.noted.Label.{Label}
use Rattle.fab_desk.specs.Desks.{itself}
use Rattle.fab_desk.proofs.Histories.{reaches_next}
use Rattle.fab_desk.proofs.desk.Desk.publish.Goals as goal

pub loop-entry-preserved : goal.loop-entry-preserved
loop-entry-preserved c = let l = c.loop-entry-test.true in let k : ℕ = c.loop-entry.entry-index in
    let count : c.args.seat.now.view.count ≡ c.args.self.now.label.tenants = c.requires.seat.2 ∙ ap (λ (d : LockFacts Label). d.words) (sym c.self.view_is) ∙ c.self.invariant.1 ∙ sym c.self.invariant.0 ∙ ap (λ (d : LockFacts Label). d.label.tenants) c.self.view_is in record {
      seat = search rules;
      view = search rules;
      reach = λ found r. rw (ap (λ v. v.words) c.post.ensures.view, ap (λ s. s.view.words) c.read-word.ensures.seat)
          (reaches_next _ c.loop-entry.seat.view.words found c.args.entries.now k _ c.max.result (c.loop-entry.invariant.reach found r) l (rw count (c.requires.tenants k _ l)) (c.max.ensures ∙ ap₂ max (c.read-word.ensures.value ∙ refl) refl));
    }

pub returns-clause-reach : goal.returns-clause-reach
returns-clause-reach c = λ found r. subst (λ (t : List Entry). Reaches itself c.args.seat.now.view.count c.loop-entry.seat.view.words (found ++ t)) (take_all c.loop-entry.entry-index c.args.entries.now c.loop-entry-test.false) (c.loop-entry.invariant.reach found r)
