use Rattle.std.proofs.Common.{ℕ, sym, ap, ◌∙◌, subst}
use Rattle.fab_bay.specs.fab_lock.specs.Facts.{SeatFacts}
use Rattle.fab_bay.specs.fab_lock.specs.Views.{after_grab}
use Rattle.fab_bay.specs.fab_model.specs.declared.note.Note.{Note}
use Rattle.fab_bay.specs.declared.noted.Label.{Label}
use Rattle.fab_bay.specs.Taking.{IsTaken}
use Rattle.fab_desk.specs.Desks.{IsFound}
use Rattle.fab_desk.proofs.Doing.{did_take, gives_on}
use Rattle.fab_desk.proofs.Giving.{gives_taken}
use Rattle.fab_desk.proofs.desk.Desk.take.Goals as goal

pub serve-requires-clause-gives : goal.serve-requires-clause-gives
serve-requires-clause-gives g c = let x = c.grab-bay.result in
    gives_on c.args.self.now.label.tenants c.number-number.result c.seat.inside.seat.view c.grab-bay.new.seat.view x c.take.new.self c.grab-bay.new.seat.view.words c.in-Ok.taken.entries.items c.as_slice.result.now
    (gives_taken c.number-number.result c.args.tenant x c.take.new.self c.in-Ok.taken c.in-Ok.ensures.taken)
    (ap (λ (l : Label). l.tenants) c.grab-bay.ensures.found.label_is)
    (c.number-number.ensures ∙ ap (λ (s : SeatFacts Label Note). s.view.low) (sym c.seat.view_is))
    c.grab-bay.ensures.view
    c.as_slice.ensures.value

pub returns-in-Ok-clause-taken : goal.returns-in-Ok-clause-taken
returns-in-Ok-clause-taken g c = let x = c.grab-bay.result in
    did_take c.args.self.now.label c.args.seat.now.view c.grab-bay.new.seat.view c.serve.new.seat.view x c.take.new.self c.grab-bay.new.seat.view.words
    (subst (λ (s : SeatFacts Label Note). IsFound c.args.self.now.label s.view x) c.seat.view_is c.grab-bay.ensures.found)
    (c.grab-bay.ensures.view ∙ ap (λ (s : SeatFacts Label Note). after_grab s.view x.notes.items c.grab-bay.new.seat.view.words) c.seat.view_is)
    c.serve.ensures.view
    c.args.tenant c.in-Ok.taken
    (subst (λ (k : ℕ). IsTaken k c.args.tenant x c.take.new.self c.in-Ok.taken) c.number-number.ensures c.in-Ok.ensures.taken)
