use Rattle.std.proofs.Common.{ℕ, sym, ap, ◌∙◌, subst}
use Rattle.fab_bay.specs.fab_lock.specs.Facts.{SeatFacts}
use Rattle.fab_bay.specs.fab_lock.specs.Views.{after_grab}
use Rattle.fab_bay.specs.fab_model.specs.declared.note.Note.{Note}
use Rattle.fab_bay.specs.declared.noted.Label.{Label}
use Rattle.fab_bay.specs.Ways.{IsPut}
use Rattle.fab_desk.specs.Desks.{IsFound}
use Rattle.fab_desk.proofs.Doing.{did_put, did_refuse}
use Rattle.fab_desk.proofs.Giving.{gives_none}
use Rattle.fab_desk.proofs.desk.Desk.put.Goals as goal

pub serve-requires-in-Err-clause-gives : goal.serve-requires-in-Err-clause-gives
serve-requires-in-Err-clause-gives g c = gives_none _ _ _ _ (c.in-Err.ensures.same ∙ sym (ap (λ v. v.taken) c.grab-bay.ensures.view))

pub returns-in-Ok-clause-put : goal.returns-in-Ok-clause-put
returns-in-Ok-clause-put g c = let x = c.grab-bay.result in
    did_put c.args.self.now.label c.args.seat.now.view c.grab-bay.new.seat.view c.serve.new.seat.view x c.put.new.self c.grab-bay.new.seat.view.words
    (subst (λ (s : SeatFacts Label Note). IsFound c.args.self.now.label s.view x) c.seat.view_is c.grab-bay.ensures.found)
    (c.grab-bay.ensures.view ∙ ap (λ (s : SeatFacts Label Note). after_grab s.view x.notes.items c.grab-bay.new.seat.view.words) c.seat.view_is)
    c.serve.ensures.view
    c.args.transit c.in-Ok.receipt
    (subst (λ (k : ℕ). IsPut k x c.put.new.self c.args.transit c.in-Ok.receipt) c.number-number.ensures c.in-Ok.ensures.put)

pub returns-in-Err-clause-refused : goal.returns-in-Err-clause-refused
returns-in-Err-clause-refused g c = let x = c.grab-bay.result in
    did_refuse c.args.self.now.label c.args.seat.now.view c.grab-bay.new.seat.view c.serve-in-Err.new.seat.view x c.put.new.self c.grab-bay.new.seat.view.words
    (subst (λ (s : SeatFacts Label Note). IsFound c.args.self.now.label s.view x) c.seat.view_is c.grab-bay.ensures.found)
    (c.grab-bay.ensures.view ∙ ap (λ (s : SeatFacts Label Note). after_grab s.view x.notes.items c.grab-bay.new.seat.view.words) c.seat.view_is)
    c.serve-in-Err.ensures.view
    c.args.transit c.in-Err.refused c.in-Err.ensures.same c.in-Err.ensures.back c.in-Err.ensures.why
