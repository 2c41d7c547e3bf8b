-- The flag with which a tenant is taken out.
use Rattle.std.proofs.Common.{◌≡◌, ℕ, suc, ◌<◌, Bool, true, false, List, [], ◌∷◌, ◌++◌, length, get_or, take, drop, map, eqb, refl, sym, ap, ap₂, ◌∙◌, subst}
use Rattle.std.proofs.lemmas.Bool.{eqb-true}
use Rattle.vl_design.specs.declared.capacity.Cost.{Cost}
use Rattle.fab_core.specs.fab_lock.specs.declared.entry.Kind.{Kind}
use Rattle.fab_core.specs.fab_lock.specs.declared.entry.Kind.TheVariants.{Line, Came, Ran, Saved, Left}
use Rattle.fab_core.specs.ten_parcel.specs.Parcels.{is_moved, number_of, ticks_of}
use Rattle.fab_core.specs.fab_model.specs.declared.note.Note.{Note}
use Rattle.fab_core.specs.fab_model.specs.declared.transit.Transit.{Transit}
use Rattle.fab_core.specs.fab_model.specs.Deeds.{deed_in, Deed}
use Rattle.fab_core.specs.fab_model.specs.Histories.{after, is_done, next, place_of, replay, Away, Inside, IsLegal, IsLegalFrom, May, Place, Seat}
use Rattle.fab_core.specs.fab_model.specs.Tokens.{out_at, outs}
use Rattle.fab_core.specs.fab_model.proofs.Legality.{place_here, place_other}
use Rattle.fab_core.specs.fab_model.proofs.Seats.{apart_legal, place_mid, AreApart}
use Rattle.fab_bay.specs.declared.berth.Berth.{Berth}
use Rattle.fab_bay.specs.declared.noted.Label.{Label}
use Rattle.fab_bay.specs.declared.noted.NotedCore.{NotedCore}
use Rattle.fab_bay.specs.Berths.{deed_at, seat, seats}
use Rattle.fab_bay.specs.Taking.{KeepsFlag}
use Rattle.fab_bay.specs.Ways.{Path}
use Rattle.fab_bay.proofs.Going.{front-empty, replay-append}
use Rattle.fab_bay.proofs.Kept.{IsTold}
use Rattle.fab_bay.proofs.Leavers.{seats_resident, seats_waiter}
use Rattle.fab_bay.proofs.Staying.{known-out, legal-behind}

-- ---- notes with which nobody leaves

-- it is inside since this tick, with this deed
abbrev IsSince : ℕ → Deed → Place → Type 0
IsSince since d p = (now : ℕ) × (c : Bool) × (p ≡ Inside since now c d)

-- a note of its own
next-keeps : (g : ℕ) (k : Kind) (since now : ℕ) (c : Bool) (d : Deed) (n : Note) → May g k (Inside since now c d) n → out_at k n ≡ [] → IsSince since d (next k (Inside since now c d) n)
next-keeps g Line since now c d n m o = absurd m
next-keeps g Came since now c d n m o = (now, true, refl)
next-keeps g Ran since now c d n m o = (n.entry.to, c, refl)
next-keeps g Saved since now c d n m o = (now, c, refl)
next-keeps g Left since now c d n m o = absurd (known-out n (deed_in n) m.0.deed m.0.known o)

after-keeps : (g t : ℕ) (k : Kind) (ss : List Seat) (n : Note) (since now : ℕ) (c : Bool) (d : Deed) → May g k (place_of n.entry.tenant ss) n → out_at k n ≡ [] → place_of t ss ≡ Inside since now c d
    → IsSince since d (place_of t (after k ss n))
after-keeps g t k ss n since now c d m o p = by (eqb n.entry.tenant t) refl
  where
    by : (v : Bool) → eqb n.entry.tenant t ≡ v → IsSince since d (place_of t (after k ss n))
    by true e =
        let same : n.entry.tenant ≡ t = eqb-true n.entry.tenant t e in
        let here : place_of n.entry.tenant ss ≡ Inside since now c d = ap (λ (i : ℕ). place_of i ss) same ∙ p in
        let r : IsSince since d (next k (Inside since now c d) n) = next-keeps g k since now c d n (subst (λ (q : Place). May g k q n) here m) o in
        (r.0, r.1, ap (λ (i : ℕ). place_of i (after k ss n)) (sym same) ∙ (place_here g k ss n m ∙ (ap (λ (q : Place). next k q n) here ∙ r.2)))
    by false e = (now, c, place_other k t ss n e ∙ p)

replay-keeps : (g : ℕ) (a : Cost) (t : ℕ) (ss : List Seat) (ns : List Note) (since now : ℕ) (c : Bool) (d : Deed) → IsLegalFrom g a ss ns → outs ns ≡ [] → place_of t ss ≡ Inside since now c d
    → IsSince since d (place_of t (replay ss ns))
replay-keeps g a t ss [] since now c d l o p = (now, c, p)
replay-keeps g a t ss (n ∷ ns) since now c d l o p =
    let b = front-empty (out_at n.entry.kind n) (outs ns) o in
    let r : IsSince since d (place_of t (after n.entry.kind ss n)) = after-keeps g t n.entry.kind ss n since now c d l.0 b.0 p in
    replay-keeps g a t (after n.entry.kind ss n) ns since r.0 r.1 d l.2 b.1 r.2

-- the same flag by what was before
module _ {b : Bool} (k n : ℕ) (x y : NotedCore) (legal : IsLegal y.label.fabric y.label.capacity y.notes.items) (w : Path b k n x y x.told.items y.told.items [] []) where
  pub keeps-before : (out : Transit) → KeepsFlag y out → KeepsFlag x out
  keeps-before out h = λ since now c d p.
      let g = y.label.fabric in
      let a = y.label.capacity in
      let t = number_of out.parcel in
      let all : IsLegalFrom g a [] (x.notes.items ++ w.added) = subst (λ (ns : List Note). IsLegalFrom g a [] ns) w.notes legal in
      let r : IsSince since d (place_of t (replay (replay [] x.notes.items) w.added)) =
      replay-keeps g a t (replay [] x.notes.items) w.added since now c d (legal-behind g a [] x.notes.items w.added all) (sym w.outs) p in
      h since r.0 r.1 d (ap (λ (ns : List Note). place_of t (replay [] ns)) w.notes ∙ (ap (place_of t) (replay-append [] x.notes.items w.added) ∙ r.2))

pub keeps-same : (x y : NotedCore) (out : Transit) → y.notes.items ≡ x.notes.items → KeepsFlag y out → KeepsFlag x out
keeps-same x y out e h = λ since now c d p. h since now c d (ap (λ (ns : List Note). place_of (number_of out.parcel) (replay [] ns)) e ∙ p)

-- ---- where it is

abbrev since_in : Place → ℕ
since_in Away = 0
since_in (Inside since now c d) = since

abbrev deed_or : Deed → Place → Deed
deed_or e Away = e
deed_or e (Inside since now c d) = d

module _ (x : NotedCore) (l : Label) (bs ws : List Berth) (h : IsTold l x.notes.items bs ws) (out : Transit) where
  keeps_at : (xs ys : List Seat) (s : Seat) → seats bs ws ≡ xs ++ s ∷ ys → number_of out.parcel ≡ s.tenant → is_moved out.parcel ≡ is_done s.since (ticks_of out.parcel) s.deed → KeepsFlag x out
  keeps_at xs ys s is who flag = λ since now c d p.
      let apart : AreApart (xs ++ s ∷ ys) = subst AreApart (h.replayed ∙ is) (apart_legal l.fabric l.capacity x.notes.items h.legal) in
      let at : Inside since now c d ≡ Inside s.since s.now s.came s.deed = sym p ∙ (ap₂ place_of who (h.replayed ∙ is) ∙ place_mid xs ys s apart) in
      flag ∙ sym (ap₂ (λ (i : ℕ) (e : Deed). is_done i (ticks_of out.parcel) e) (ap since_in at) (ap (deed_or d) at))

  pub keeps_resident : (i : ℕ) (b : Berth) → i < length bs → b ≡ get_or bs i b → number_of out.parcel ≡ b.tenant → is_moved out.parcel ≡ is_done b.since (ticks_of out.parcel) (deed_at b) → KeepsFlag x out
  keeps_resident i b lt is = keeps_at (map (seat true) (take i bs)) (map (seat true) (drop (suc i) bs) ++ map (seat false) ws) (seat true b) (seats_resident bs ws i b lt is)

  pub keeps_waiter : (i : ℕ) (b : Berth) → i < length ws → b ≡ get_or ws i b → number_of out.parcel ≡ b.tenant → is_moved out.parcel ≡ is_done b.since (ticks_of out.parcel) (deed_at b) → KeepsFlag x out
  keeps_waiter i b lt is = keeps_at (map (seat true) bs ++ map (seat false) (take i ws)) (map (seat false) (drop (suc i) ws)) (seat false b) (seats_waiter bs ws i b lt is)
