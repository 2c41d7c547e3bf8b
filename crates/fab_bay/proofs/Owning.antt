-- Whoever is put in line starts from what the label names.
use Rattle.std.proofs.Common.{◌≡◌, ℕ, List, [], ◌∷◌, ◌++◌, sym, ap, ◌∙◌, subst, Option, Some, Result, Ok, Err}
use Rattle.std.specs.Prelude.{IfOk, OnErr}
use Rattle.std.proofs.lemmas.List.{append-nil}
use Rattle.fab_core.specs.ten_parcel.specs.Parcels.{number_of, origin_in}
use Rattle.fab_core.specs.fab_lock.specs.declared.entry.Entry.{Entry}
use Rattle.fab_core.specs.fab_model.specs.declared.note.Note.{Note}
use Rattle.fab_core.specs.fab_model.specs.declared.transit.Transit.{Transit}
use Rattle.fab_core.specs.fab_model.specs.Deeds.{deed_in, deed_of, Deed}
use Rattle.fab_core.specs.fab_model.specs.Origins.{AreOwn, Origins, StartsFrom}
use Rattle.fab_core.specs.fab_model.specs.Tokens.{put_at, puts, told, Token}
use Rattle.fab_core.specs.fab_model.proofs.Owns.{own-append}
use Rattle.fab_bay.specs.declared.leaving.Found.{Found}
use Rattle.fab_bay.specs.declared.leaving.Found.TheVariants.{Here, Absent, Short}
use Rattle.fab_bay.specs.declared.leaving.Receipt.{Receipt}
use Rattle.fab_bay.specs.declared.leaving.Refused.{Refused}
use Rattle.fab_bay.specs.declared.leaving.Taken.{Taken}
use Rattle.fab_bay.specs.declared.leaving.Turn.{Turn}
use Rattle.fab_bay.specs.declared.noted.NotedCore.{NotedCore}
use Rattle.fab_bay.specs.Taking.{IsFound, IsTaken}
use Rattle.fab_bay.specs.Ways.{IsPut, Took, Turned}
use Rattle.fab_bay.proofs.Going.{puts-append}

-- the same by a bay
abbrev pub IsOwned : NotedCore → Type 0
IsOwned x = AreOwn x.label.origins (puts x.notes.items)

owned-on : (x y : NotedCore) (added : List Note) → y.label ≡ x.label → y.notes.items ≡ x.notes.items ++ added → AreOwn x.label.origins (puts added) → IsOwned x → IsOwned y
owned-on x y added label notes own h =
    subst (λ (all : Origins). AreOwn all (puts y.notes.items)) (ap (λ l. l.origins) (sym label)) (subst (λ (ns : List Note). AreOwn x.label.origins (puts ns)) (sym notes)
    (subst (λ (ts : List Token). AreOwn x.label.origins ts) (sym (puts-append x.notes.items added)) (own-append x.label.origins (puts x.notes.items) (puts added) h own)))

owned-same : (x y : NotedCore) → y.label ≡ x.label → y.notes.items ≡ x.notes.items → IsOwned x → IsOwned y
owned-same x y label notes h = owned-on x y [] label (notes ∙ sym (append-nil x.notes.items)) tt h

put-own : (all : Origins) (n : Note) (t : Transit) (e : Entry) → n.entry ≡ e → deed_in n ≡ Some (deed_of t) → e.tenant ≡ number_of t.parcel → StartsFrom all (number_of t.parcel) (origin_in t.parcel)
    → AreOwn all (told n.entry (deed_in n))
put-own all n t e entry deed tenant own =
    subst (λ (o : Option Deed). AreOwn all (told n.entry o)) (sym deed) (subst (λ (k : ℕ). StartsFrom all k (origin_in t.parcel)) (sym (ap (λ (x : Entry). x.tenant) entry ∙ tenant)) own, tt)

owned-put : (number : ℕ) (x y : NotedCore) (t : Transit) (r : Receipt) → IsPut number x y t r → y.label ≡ x.label → StartsFrom x.label.origins (number_of t.parcel) (origin_in t.parcel) → IsOwned x → IsOwned y
owned-put number x y t r p label own h =
    owned-on x y (p.note ∷ []) label p.notes
    (subst (λ k. AreOwn x.label.origins (put_at k p.note ++ [])) (sym (ap (λ (e : Entry). e.kind) (p.entry ∙ p.tells)))
    (subst (λ (ts : List Token). AreOwn x.label.origins ts) (sym (append-nil (told p.note.entry (deed_in p.note)))) (put-own x.label.origins p.note t r.entry p.entry p.deed (ap (λ (e : Entry). e.tenant) p.tells) own))) h

pub owned_put : (number : ℕ) (x y : NotedCore) (t : Transit) (r : Result Receipt Refused) → IfOk r (λ a. IsPut number x y t a) → OnErr r (y.notes.items ≡ x.notes.items) → y.label ≡ x.label
    → StartsFrom x.label.origins (number_of t.parcel) (origin_in t.parcel) → IsOwned x → IsOwned y
owned_put number x y t (Ok r) p same label own h = owned-put number x y t r p label own h
owned_put number x y t (Err r) p same label own h = owned-same x y label same h

none-own : (all : Origins) (added : List Note) → puts added ≡ [] → AreOwn all (puts added)
none-own all added e = subst (λ (ts : List Token). AreOwn all ts) (sym e) tt

pub owned_turn : {A : Type 0} (number most : ℕ) (x y : NotedCore) (t : Result Turn A) → IfOk t (λ a. Turned number most x y a) → OnErr t (y.notes.items ≡ x.notes.items) → y.label ≡ x.label → IsOwned x → IsOwned y
owned_turn number most x y (Ok t) d same label h = owned-on x y d.goes.added label d.goes.notes (none-own x.label.origins d.goes.added d.goes.puts) h
owned_turn number most x y (Err e) d same label h = owned-same x y label same h

owned-took : (number : ℕ) (x y : NotedCore) (entries : List Entry) (out : List Transit) → Took number x y entries out → y.label ≡ x.label → IsOwned x → IsOwned y
owned-took number x y entries out d label h = owned-on x y d.goes.added label d.goes.notes (none-own x.label.origins d.goes.added d.goes.puts) h

owned-found : (number tenant : ℕ) (x y : NotedCore) (t : Taken) (f : Found) → IsFound number tenant x y t f → y.label ≡ x.label → IsOwned x → IsOwned y
owned-found number tenant x y t (Here out) d label h = owned-took number x y t.entries.items (out ∷ []) d.1 label h
owned-found number tenant x y t Absent d label h = owned-same x y label d.1 h
owned-found number tenant x y t Short d label h = owned-took number x y t.entries.items [] d.1 label h

pub owned_take : {A : Type 0} (number tenant : ℕ) (x y : NotedCore) (t : Result Taken A) → IfOk t (λ a. IsTaken number tenant x y a) → OnErr t (y.notes.items ≡ x.notes.items) → y.label ≡ x.label → IsOwned x → IsOwned y
owned_take number tenant x y (Ok t) d same label h = owned-found number tenant x y t t.found d.1 label h
owned_take number tenant x y (Err e) d same label h = owned-same x y label same h
