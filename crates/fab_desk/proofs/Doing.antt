-- What calls at a desk do.
use Rattle.std.proofs.Common.{◌≡◌, ℕ, List, [], ◌∷◌, ◌++◌, sym, ap, ◌∙◌, subst, append-nil}
use Rattle.std.specs.Bool.{Decides}
use Rattle.fab_bay.specs.fab_lock.specs.declared.entry.Entry.{Entry}
use Rattle.fab_bay.specs.fab_lock.specs.Views.{after_grab}
use Rattle.fab_bay.specs.fab_model.specs.declared.note.Note.{Note}
use Rattle.fab_bay.specs.fab_model.specs.declared.transit.Transit.{Transit}
use Rattle.fab_bay.specs.fab_model.specs.Tokens.{token_of, AllBear}
use Rattle.fab_bay.specs.declared.leaving.Receipt.{Receipt}
use Rattle.fab_bay.specs.declared.leaving.Refused.{Refused}
use Rattle.fab_bay.specs.declared.leaving.Taken.{Taken}
use Rattle.fab_bay.specs.declared.leaving.Turn.{Turn}
use Rattle.fab_bay.specs.declared.noted.Label.{Label}
use Rattle.fab_bay.specs.declared.noted.NotedCore.{NotedCore}
use Rattle.fab_bay.specs.Refusals.{IsRefusal}
use Rattle.fab_bay.specs.Taking.{IsTaken}
use Rattle.fab_bay.specs.Ways.{AreBelow, IsEmpty, IsPut, Turned}
use Rattle.fab_desk.specs.Desks.{serving, DeskView, DidPut, DidRefuse, DidTake, DidTurn, Gives, IsFound}
use Rattle.fab_desk.proofs.Giving.{gives_taken}

-- notes that are given behind the history found
pub gives_on : (tenants number : ℕ) (v g : DeskView) (x y : NotedCore) (words : List ℕ) (entries told : List Entry) → Gives x.label.tenants number x.notes.items y.notes.items entries
    → x.label.tenants ≡ tenants → number ≡ v.low → g ≡ after_grab v x.notes.items words → told ≡ entries → Gives tenants g.low g.taken y.notes.items told
gives_on tenants number v g x y words entries told q l n p e = record {
  added = q.added;
  notes = q.notes ∙ ap (λ (u : DeskView). u.taken ++ q.added) (sym p);
  told = e ∙ q.told;
  bear = subst (λ (k : ℕ). AllBear k q.added) (n ∙ ap (λ (u : DeskView). u.low) (sym p)) q.bear;
  few = subst (λ (k : ℕ). AreBelow k q.added) l q.few;
}

module _ (label : Label) (v g w : DeskView) (before after : NotedCore) (words : List ℕ) (found : IsFound label v before) (p : g ≡ after_grab v before.notes.items words)
    (s : (added : List Note) → after.notes.items ≡ g.taken ++ added → w ≡ serving g g.taken added) where
  seen : (added : List Note) → after.notes.items ≡ before.notes.items ++ added → w ≡ serving v before.notes.items added
  seen added e = s added (e ∙ ap (λ (u : DeskView). u.taken ++ added) (sym p)) ∙ ap (λ (u : DeskView). serving u u.taken added) p

  pub did_put : (t : Transit) (r : Receipt) → IsPut v.low before after t r → DidPut label t v w r
  did_put t r i = record { before = before; after = after; found = found; put = i; view = seen (i.note ∷ []) i.notes }

  pub did_refuse : (t : Transit) (r : Refused) → after.notes.items ≡ before.notes.items → r.transit ≡ t → IsRefusal before.label.capacity before.notes.items (token_of t) r.why → DidRefuse label t v w r
  did_refuse t r same back why = record {
    found = before.notes.items;
    finds = found.finds;
    back = back;
    why = subst (λ (l : Label). IsRefusal l.capacity before.notes.items (token_of t) r.why) found.label_is why;
    view = seen [] (same ∙ sym (append-nil before.notes.items));
  }

  pub did_turn : (most : ℕ) (t : Turn) → Turned v.low most before after t → Decides t.idle (IsEmpty before.notes.items) → DidTurn label most v w t
  did_turn most t i d = record { before = before; after = after; found = found; turned = i; view = seen i.goes.added i.goes.notes; idle = d }

  pub did_take : (tenant : ℕ) (t : Taken) → IsTaken v.low tenant before after t → DidTake label tenant v w t
  did_take tenant t i = let q = gives_taken v.low tenant before after t i in record { before = before; after = after; found = found; taken = i; added = q.added; notes = q.notes; view = seen q.added q.notes }
