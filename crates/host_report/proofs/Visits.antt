-- Stays, by a tenant's lawful notes.
use Rattle.std.proofs.Common.{◌≡◌, ℕ, eqb, Bool, true, false, List, [], ◌∷◌, ◌++◌, map, cond, refl, sym, ap, ◌∙◌, Option, Some, None}
use Rattle.std.specs.Prelude.{⊤}
use Rattle.std.proofs.lemmas.Bool.{false≢true}
use Rattle.ten_files.specs.vl_design.specs.declared.capacity.Cost.{Cost}
use Rattle.fab_model.specs.fab_lock.specs.declared.entry.Entry.{Entry}
use Rattle.fab_model.specs.fab_lock.specs.declared.entry.Kind.{Kind}
use Rattle.fab_model.specs.fab_lock.specs.declared.entry.Kind.TheVariants.{Line, Came, Ran, Saved, Left}
use Rattle.fab_model.specs.declared.note.Note.{Note}
use Rattle.fab_model.specs.Deeds.{Deed, deed_in}
use Rattle.fab_model.specs.Histories.{put, next, of_tenant, stay_at, stays_from, stays_of, Away, Inside, IsLawful, IsLegal, May, Place}
use Rattle.fab_model.proofs.Legality.{each_is_lawful}
use Rattle.host_files.specs.host_form.specs.Histories.{is_came, is_left, next_left, notes_of, visit_to, visits_in, Visit}
use Rattle.host_report.specs.Told.{told, told_note, visit_of}

pub notes_told : (t : ℕ) (ns : List Note) → notes_of t (told ns) ≡ told (of_tenant t ns)
notes_told t [] = refl
notes_told t (n ∷ ns) = step (eqb n.entry.tenant t) (notes_told t ns)
  where
    step : (b : Bool) → notes_of t (told ns) ≡ told (of_tenant t ns) → cond b (told_note n ∷ notes_of t (told ns)) (notes_of t (told ns)) ≡ told (cond b (n ∷ of_tenant t ns) (of_tenant t ns))
    step true r = ap (λ zs. told_note n ∷ zs) r
    step false r = r

-- in line it is by its notes where it was put in line
abbrev IsStill : Place → Type 0
IsStill Away = ⊤
IsStill (Inside since now c d) = c ≡ false → now ≡ since

still_put : (e : Entry) (o : Option Deed) → IsStill (put e o)
still_put e None = tt
still_put e (Some d) = λ h. refl

no : {X : Type 0} (c : Bool) → c ≡ true → c ≡ false → X
no c p q = absurd (false≢true (sym q ∙ p))

still_next : (g : ℕ) (k : Kind) (p : Place) (n : Note) → May g k p n → IsStill p → IsStill (next k p n)
still_next g Line p n m i = still_put n.entry (deed_in n)
still_next g Came Away n m i = tt
still_next g Came (Inside since now c d) n m i = λ h. no true refl h
still_next g Ran Away n m i = tt
still_next g Ran (Inside since now c d) n m i = λ h. no c m.0 h
still_next g Saved p n m i = i
still_next g Left p n m i = tt

-- the stay of a resident, which ends where it leaves next
abbrev pending : ℕ → Place → Option ℕ → List Visit
pending g Away o = []
pending g (Inside since now c d) o = cond c (visit_to g since o) []

pending_put : (g : ℕ) (e : Entry) (o : Option Deed) (l : Option ℕ) → pending g (put e o) l ≡ []
pending_put g e None l = refl
pending_put g e (Some d) l = refl

one_note : (g : ℕ) (k : Kind) (p : Place) (n : Note) (ns : List Note) (l : Option ℕ) (vs : List Visit) → May g k p n → IsStill p
    → (pending g (next k p n) l ++ vs) ≡ map visit_of (stays_from g (next k p n) ns)
    → (pending g p (cond (is_left k) (Some n.entry.from) l) ++ (cond (is_came k) (visit_to g n.entry.from l) [] ++ vs)) ≡ map visit_of (stay_at g k p ++ stays_from g (next k p n) ns)
one_note g Line Away n ns l vs m i r = ap (λ zs. zs ++ vs) (sym (pending_put g n.entry (deed_in n) l)) ∙ r
one_note g Line (Inside since now c d) n ns l vs m i r = absurd m
one_note g Came Away n ns l vs m i r = absurd m
one_note g Came (Inside since now true d) n ns l vs m i r = no true refl m.0
one_note g Came (Inside since now false d) n ns l vs m i r = ap (λ (f : ℕ). visit_to g f l ++ vs) (m.1 ∙ i refl) ∙ r
one_note g Ran Away n ns l vs m i r = absurd m
one_note g Ran (Inside since now c d) n ns l vs m i r = r
one_note g Saved Away n ns l vs m i r = absurd m
one_note g Saved (Inside since now c d) n ns l vs m i r = r
one_note g Left Away n ns l vs m i r = absurd m
one_note g Left (Inside since now true d) n ns l vs m i r =
    let first : List Visit → ℕ → List Visit = λ zs to. record { fabric = g; from = since; to = to } ∷ zs in
    ap (first vs) m.0.from ∙ ap (λ zs. first zs now) r
one_note g Left (Inside since now false d) n ns l vs m i r = r

visits_by : (g : ℕ) (p : Place) (ns : List Note) → IsLawful g p ns → IsStill p → (pending g p (next_left (told ns)) ++ visits_in g (told ns)) ≡ map visit_of (stays_from g p ns)
visits_by g Away [] l i = refl
visits_by g (Inside since now true d) [] l i = refl
visits_by g (Inside since now false d) [] l i = refl
visits_by g p (n ∷ ns) l i =
    one_note g n.entry.kind p n ns (next_left (told ns)) (visits_in g (told ns)) l.0 i
    (visits_by g (next n.entry.kind p n) ns l.1 (still_next g n.entry.kind p n l.0 i))

pub visits_read : (g t : ℕ) (c : Cost) (notes : List Note) → IsLegal g c notes → visits_in g (notes_of t (told notes)) ≡ map visit_of (stays_of g t notes)
visits_read g t c notes l = ap (visits_in g) (notes_told t notes) ∙ visits_by g Away (of_tenant t notes) (each_is_lawful g t c notes l) tt
