-- Whoever is noted was put in line, and whoever leaves started from what whoever was put in line starts from.
use Rattle.std.proofs.Common.{◌≡◌, ℕ, eqb, Bool, true, false, List, [], ◌∷◌, ◌++◌, cond, refl, sym, ap, ◌∙◌, subst, Option, Some, None}
use Rattle.std.specs.Prelude.{⊤, is_some}
use Rattle.std.specs.List.{AllByRecursion}
use Rattle.std.proofs.lemmas.Bool.{eqb-true}
use Rattle.ten_core.specs.vl_design.specs.declared.capacity.Cost.{Cost}
use Rattle.ten_core.specs.declared.origin.Origin.{Origin}
use Rattle.fab_lock.specs.declared.entry.Entry.{Entry}
use Rattle.fab_lock.specs.declared.entry.Kind.{Kind}
use Rattle.fab_lock.specs.declared.entry.Kind.TheVariants.{Line, Came, Ran, Saved, Left}
use Rattle.fab_model.specs.declared.note.Note.{Note}
use Rattle.fab_model.specs.Deeds.{Deed, deed_in}
use Rattle.fab_model.specs.Histories.{Place, Away, Inside, May, MayLeave, Seat, place_of, changed, without, in_line, seated, moved_to, after, IsLegalFrom, IsLegal}
use Rattle.fab_model.specs.Origins.{AreOwn, Origins, StartsFrom}
use Rattle.fab_model.specs.Tokens.{outs, out_at, puts, put_at, told, Token}

module _ (all : Origins) where
  pub own-append : (xs ys : List Token) → AreOwn all xs → AreOwn all ys → AreOwn all (xs ++ ys)
  own-append [] ys h k = k
  own-append (x ∷ xs) ys h k = (h.0, own-append xs ys h.1 k)

  pub own-parts : (xs ys : List Token) → AreOwn all (xs ++ ys) → AreOwn all xs × AreOwn all ys
  own-parts [] ys h = (tt, h)
  own-parts (x ∷ xs) ys h = let r = own-parts xs ys h.1 in ((h.0, r.0), r.1)

  -- ---- seats

  abbrev AreSeatsOwn : List Seat → Type 0
  AreSeatsOwn [] = ⊤
  AreSeatsOwn (s ∷ ss) = StartsFrom all s.tenant s.deed.origin × AreSeatsOwn ss

  abbrev IsPlaceOwn : ℕ → Place → Type 0
  IsPlaceOwn t Away = ⊤
  IsPlaceOwn t (Inside since now came d) = StartsFrom all t d.origin

  seats-append : (xs ys : List Seat) → AreSeatsOwn xs → AreSeatsOwn ys → AreSeatsOwn (xs ++ ys)
  seats-append [] ys h k = k
  seats-append (x ∷ xs) ys h k = (h.0, seats-append xs ys h.1 k)

  place-own : (t : ℕ) (ss : List Seat) → AreSeatsOwn ss → IsPlaceOwn t (place_of t ss)
  place-own t [] h = tt
  place-own t (s ∷ ss) h = step (eqb s.tenant t) refl (place-own t ss h.1)
    where
      step : (b : Bool) → eqb s.tenant t ≡ b → IsPlaceOwn t (place_of t ss) → IsPlaceOwn t (cond b (Inside s.since s.now s.came s.deed) (place_of t ss))
      step true e r = subst (λ (u : ℕ). StartsFrom all u s.deed.origin) (eqb-true s.tenant t e) h.0
      step false e r = r

  changed-own : (t : ℕ) (f : Seat → Seat) (ss : List Seat) → ((s : Seat) → (f s).tenant ≡ s.tenant) → ((s : Seat) → (f s).deed ≡ s.deed) → AreSeatsOwn ss → AreSeatsOwn (changed t f ss)
  changed-own t f [] n d h = tt
  changed-own t f (s ∷ ss) n d h = (step (eqb s.tenant t), changed-own t f ss n d h.1)
    where
      step : (b : Bool) → StartsFrom all (cond b (f s) s).tenant (cond b (f s) s).deed.origin
      step true = subst (λ (u : ℕ). StartsFrom all u (f s).deed.origin) (sym (n s)) (subst (λ (x : Deed). StartsFrom all s.tenant x.origin) (sym (d s)) h.0)
      step false = h.0

  without-own : (t : ℕ) (ss : List Seat) → AreSeatsOwn ss → AreSeatsOwn (without t ss)
  without-own t [] h = tt
  without-own t (s ∷ ss) h = step (eqb s.tenant t) (without-own t ss h.1)
    where
      step : (b : Bool) → AreSeatsOwn (without t ss) → AreSeatsOwn (cond b (without t ss) (s ∷ without t ss))
      step true r = r
      step false r = (h.0, r)

  line-own : (e : Entry) (o : Option Deed) → AreOwn all (told e o) → AreSeatsOwn (in_line e o)
  line-own e None h = tt
  line-own e (Some d) h = (h.0, tt)

  -- ---- one note

  out-own : (g : ℕ) (n : Note) (p : Place) → IsPlaceOwn n.entry.tenant p → May g Left p n → AreOwn all (told n.entry (deed_in n))
  out-own g n Away h m = absurd m
  out-own g n (Inside since now came d) h m =
      subst (λ (o : Option Deed). AreOwn all (told n.entry o)) (sym m.0.known) (subst (λ (x : Origin). StartsFrom all n.entry.tenant x) (sym m.0.origin) h, tt)

  after-own : (k : Kind) (g : ℕ) (ss : List Seat) (n : Note) → AreSeatsOwn ss → AreOwn all (put_at k n) → AreSeatsOwn (after k ss n)
  after-own Line g ss n h k = seats-append ss (in_line n.entry (deed_in n)) h (line-own n.entry (deed_in n) k)
  after-own Came g ss n h k = changed-own n.entry.tenant seated ss (λ s. refl) (λ s. refl) h
  after-own Ran g ss n h k = changed-own n.entry.tenant (moved_to n.entry.to) ss (λ s. refl) (λ s. refl) h
  after-own Saved g ss n h k = h
  after-own Left g ss n h k = without-own n.entry.tenant ss h

  left-own : (k : Kind) (g : ℕ) (ss : List Seat) (n : Note) → AreSeatsOwn ss → May g k (place_of n.entry.tenant ss) n → AreOwn all (out_at k n)
  left-own Line g ss n h m = tt
  left-own Came g ss n h m = tt
  left-own Ran g ss n h m = tt
  left-own Saved g ss n h m = tt
  left-own Left g ss n h m = out-own g n (place_of n.entry.tenant ss) (place-own n.entry.tenant ss h) m

  outs-own : (g : ℕ) (c : Cost) (ss : List Seat) (ns : List Note) → IsLegalFrom g c ss ns → AreSeatsOwn ss → AreOwn all (puts ns) → AreOwn all (outs ns)
  outs-own g c ss [] l h k = tt
  outs-own g c ss (n ∷ ns) l h k =
      let p = own-parts (put_at n.entry.kind n) (puts ns) k in
      own-append (out_at n.entry.kind n) (outs ns) (left-own n.entry.kind g ss n h l.0)
      (outs-own g c (after n.entry.kind ss n) ns l.2 (after-own n.entry.kind g ss n h p.0) p.1)

  pub leavers_own : (g : ℕ) (c : Cost) (notes : List Note) → IsLegal g c notes → AreOwn all (puts notes) → AreOwn all (outs notes)
  leavers_own g c notes l k = outs-own g c [] notes l tt k

  -- ---- who is noted

  -- something is named that its tenant starts from
  abbrev pub IsNamed : Note → Type 0
  IsNamed n = (o : Origin) × StartsFrom all n.entry.tenant o

  line-named : (n : Note) (o : Option Deed) → is_some o ≡ true → AreOwn all (told n.entry o) → IsNamed n
  line-named n None e h = let z : ⊥ = cc in absurd z
  line-named n (Some d) e h = (d.origin, h.0)

  note-named : (k : Kind) (g : ℕ) (n : Note) (p : Place) → IsPlaceOwn n.entry.tenant p → May g k p n → AreOwn all (put_at k n) → IsNamed n
  note-named Line g n Away h m w = line-named n (deed_in n) m.0 w
  note-named Line g n (Inside since now came d) h m w = absurd m
  note-named Came g n Away h m w = absurd m
  note-named Came g n (Inside since now came d) h m w = (d.origin, h)
  note-named Ran g n Away h m w = absurd m
  note-named Ran g n (Inside since now came d) h m w = (d.origin, h)
  note-named Saved g n Away h m w = absurd m
  note-named Saved g n (Inside since now came d) h m w = (d.origin, h)
  note-named Left g n Away h m w = absurd m
  note-named Left g n (Inside since now came d) h m w = (d.origin, h)

  notes-named : (g : ℕ) (c : Cost) (ss : List Seat) (ns : List Note) → IsLegalFrom g c ss ns → AreSeatsOwn ss → AreOwn all (puts ns) → AllByRecursion IsNamed ns
  notes-named g c ss [] l h k = tt
  notes-named g c ss (n ∷ ns) l h k =
      let p = own-parts (put_at n.entry.kind n) (puts ns) k in (
        note-named n.entry.kind g n (place_of n.entry.tenant ss) (place-own n.entry.tenant ss h) l.0 p.0,
        notes-named g c (after n.entry.kind ss n) ns l.2 (after-own n.entry.kind g ss n h p.0) p.1,
      )

  pub all_named : (g : ℕ) (c : Cost) (notes : List Note) → IsLegal g c notes → AreOwn all (puts notes) → AllByRecursion IsNamed notes
  all_named g c notes l k = notes-named g c [] notes l tt k
