use Rattle.std.proofs.Common.{ℕ, ap, ◌∙◌, subst}
use Rattle.fab_bay.specs.fab_lock.specs.Facts.{SeatFacts}
use Rattle.fab_bay.specs.fab_lock.specs.Views.{after_grab}
use Rattle.fab_bay.specs.fab_model.specs.declared.note.Note.{Note}
use Rattle.fab_bay.specs.declared.noted.Label.{Label}
use Rattle.fab_bay.specs.Ways.{Turned}
use Rattle.fab_desk.specs.Desks.{IsFound}
use Rattle.fab_desk.proofs.Doing.{did_turn}
use Rattle.fab_desk.proofs.desk.Desk.turn.Goals as goal

pub returns-in-Ok-clause-turned : goal.returns-in-Ok-clause-turned
returns-in-Ok-clause-turned g c = let x = c.grab-bay.result in
    did_turn c.args.self.now.label c.args.seat.now.view c.grab-bay.new.seat.view c.serve.new.seat.view x c.turn.new.self c.grab-bay.new.seat.view.words
    (subst (λ (s : SeatFacts Label Note). IsFound c.args.self.now.label s.view x) c.seat.view_is c.grab-bay.ensures.found)
    (c.grab-bay.ensures.view ∙ ap (λ (s : SeatFacts Label Note). after_grab s.view x.notes.items c.grab-bay.new.seat.view.words) c.seat.view_is)
    c.serve.ensures.view
    c.args.most c.in-Ok.turn
    (subst (λ (k : ℕ). Turned k c.args.most x c.turn.new.self c.in-Ok.turn) c.number-number.ensures c.in-Ok.ensures.turned)
    c.in-Ok.ensures.idle
