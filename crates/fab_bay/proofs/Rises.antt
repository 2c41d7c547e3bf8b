-- How far ticks rise from one history to another.
use Rattle.std.proofs.Common.{◌≡◌, ℕ, ◌+◌, ◌≤◌, Bool, true, false, List, [], ◌∷◌, ◌++◌, map, refl, sym, ap, ◌∙◌, subst, arith, append_assoc}
use Rattle.std.specs.Prelude.{◌==◌, if◌then◌else◌}
use Rattle.std.specs.List.{AllByRecursion}
use Rattle.std.proofs.lemmas.Bool.{eqb-true}
use Rattle.fab_core.specs.fab_model.specs.Points.{Point, tick_of}
use Rattle.fab_core.specs.fab_model.specs.Fabrics.{Fabric}
use Rattle.fab_core.specs.fab_model.specs.declared.note.Note.{Note}
use Rattle.fab_core.specs.fab_model.specs.Deeds.{Deed}
use Rattle.fab_core.specs.fab_model.specs.Histories.{place_of, replay, Away, Inside, Place, Seat}
use Rattle.fab_core.specs.fab_model.proofs.Legality.{not_away}
use Rattle.fab_core.specs.fab_model.proofs.Seats.{apart_legal, place_mid, AreApart}
use Rattle.fab_bay.specs.declared.berth.Berth.{Berth}
use Rattle.fab_bay.specs.declared.noted.NotedCore.{NotedCore}
use Rattle.fab_bay.specs.Berths.{begun, deed_at, seat, seats, AreBerths, AreSettled, AreWaiters, IsBerth}
use Rattle.fab_bay.specs.Nearness.{IsAt, IsWithin}
use Rattle.fab_bay.specs.Standing.{IsNoted}
use Rattle.fab_bay.proofs.Near.{points-within, tick-begins, within-points, AreBegun}
use Rattle.fab_bay.proofs.Ran.{tick-begun}

-- the tick at which a tenant is
abbrev pub tick_in : Place → ℕ
tick_in Away = 0
tick_in (Inside since now c d) = now

-- one more than its tick by these notes
abbrev pub next_tick : List Note → ℕ → ℕ
next_tick notes t = tick_in (place_of t (replay [] notes)) + 1

pub next-at : (notes : List Note) (t k : ℕ) → IsAt notes t k → next_tick notes t ≡ k + 1
next-at notes t k a = ap (λ (p : Place). tick_in p + 1) a.3

-- ---- the history found

module _ (g : ℕ → Place) where
  -- each is where this says
  abbrev Agree : List Seat → Type 0
  Agree ss = AllByRecursion (λ s. g s.tenant ≡ Inside s.since s.now s.came s.deed) ss

  abbrev most : ℕ → ℕ
  most t = tick_in (g t) + 1

  seat-begun : (b : Berth) (c : Bool) (p : Point) → b.tenant ≡ p.number → b.noted ≡ tick_of p → g b.tenant ≡ Inside b.since b.noted c (deed_at b) → begun p ≤ most p.number
  seat-begun b c p who at e =
      let now : tick_in (g p.number) ≡ b.noted = ap (λ (n : ℕ). tick_in (g n)) (sym who) ∙ ap tick_in e in
      let le = tick-begins p in
      omega (arith, now, at, le)

  line-begun : (n : ℕ) (ws : List Berth) (qs : List Point) → AreWaiters n ws qs → Agree (map (seat false) ws) → AreBegun most qs
  line-begun n [] [] h a = tt
  line-begun n [] (q ∷ qs) h a = absurd h
  line-begun n (w ∷ ws) [] h a = absurd h
  line-begun n (w ∷ ws) (q ∷ qs) h a = (seat-begun w false q h.0.berth.number h.0.noted a.0, line-begun n ws qs h.1 a.1)

  all-begun : (n : ℕ) (bs ws : List Berth) (ps qs : List Point) → AreBerths n bs ps → AreWaiters n ws qs → AreSettled bs ps → Agree (seats bs ws) → AreBegun most (ps ++ qs)
  all-begun n [] ws [] qs h l s a = line-begun n ws qs l a
  all-begun n [] ws (p ∷ ps) qs h l s a = absurd h
  all-begun n (b ∷ bs) ws [] qs h l s a = absurd h
  all-begun n (b ∷ bs) ws (p ∷ ps) qs h l s a = (seat-begun b true p h.0.number s.0 a.0, all-begun n bs ws ps qs h.1 l s.1 a.1)

agree-from : (xs ys : List Seat) → AreApart (xs ++ ys) → Agree (λ t. place_of t (xs ++ ys)) ys
agree-from xs [] a = tt
agree-from xs (s ∷ ys) a =
    let same : (xs ++ s ∷ []) ++ ys ≡ xs ++ s ∷ ys = append_assoc xs (s ∷ []) ys in
    (place_mid xs ys s a, subst (λ (zs : List Seat). Agree (λ t. place_of t zs) ys) same (agree-from (xs ++ s ∷ []) ys (subst AreApart (sym same) a)))

-- between calls nobody has begun more than one tick behind its own
pub found-within : (x : NotedCore) (f : Fabric) → IsNoted x f → AreSettled x.berths.items f.residents → IsWithin (next_tick x.notes.items) x
found-within x f h s =
    let ss = seats x.berths.items x.waiting.items in
    let apart : AreApart ss = subst AreApart h.replayed (apart_legal x.label.fabric x.label.capacity x.notes.items h.legal) in
    let all : Agree (λ t. place_of t (replay [] x.notes.items)) ss = subst (λ (zs : List Seat). Agree (λ t. place_of t zs) ss) (sym h.replayed) (agree-from [] ss apart) in
    points-within (next_tick x.notes.items) x f h.core
    (all-begun (λ t. place_of t (replay [] x.notes.items)) x.label.tenants x.berths.items x.waiting.items f.residents f.line h.residents h.line s all)

-- ---- the history left

module _ (limit : ℕ → ℕ) (t m since : ℕ) (c : Bool) (d : Deed) where
  seat-within : (n : ℕ) (b : Berth) (came : Bool) (p : Point) → IsBerth n b p → begun p ≤ limit p.number → b.tenant ≡ t → Inside b.since b.noted came (deed_at b) ≡ Inside since m c d → m ≤ limit t
  seat-within n b came p h le who e =
      let at : b.noted ≡ m = ap tick_in e in
      let low = h.order.1 in
      let high = tick-begun p in
      let same : limit p.number ≡ limit t = ap limit (sym h.number ∙ who) in
      omega (arith, at, low, high, le, same)

  line-within : (n : ℕ) (ws : List Berth) (qs : List Point) → AreWaiters n ws qs → AreBegun limit qs → place_of t (map (seat false) ws) ≡ Inside since m c d → m ≤ limit t
  line-within n [] [] h w e = not_away since m c d (sym e)
  line-within n [] (q ∷ qs) h w e = absurd h
  line-within n (b ∷ ws) [] h w e = absurd h
  line-within n (b ∷ ws) (q ∷ qs) h w e = by (b.tenant == t) refl e (line-within n ws qs h.1 w.1)
    where
      by : (v : Bool) → (b.tenant == t) ≡ v → (if v then Inside b.since b.noted false (deed_at b) else place_of t (map (seat false) ws)) ≡ Inside since m c d
          → (place_of t (map (seat false) ws) ≡ Inside since m c d → m ≤ limit t) → m ≤ limit t
      by true i e r = seat-within n b false q h.0.berth w.0 (eqb-true b.tenant t i) e
      by false i e r = r e

  all-within : (n : ℕ) (bs ws : List Berth) (ps qs : List Point) → AreBerths n bs ps → AreWaiters n ws qs → AreBegun limit (ps ++ qs) → place_of t (seats bs ws) ≡ Inside since m c d → m ≤ limit t
  all-within n [] ws [] qs h l w e = line-within n ws qs l w e
  all-within n [] ws (p ∷ ps) qs h l w e = absurd h
  all-within n (b ∷ bs) ws [] qs h l w e = absurd h
  all-within n (b ∷ bs) ws (p ∷ ps) qs h l w e = by (b.tenant == t) refl e (all-within n bs ws ps qs h.1 l w.1)
    where
      by : (v : Bool) → (b.tenant == t) ≡ v → (if v then Inside b.since b.noted true (deed_at b) else place_of t (seats bs ws)) ≡ Inside since m c d
          → (place_of t (seats bs ws) ≡ Inside since m c d → m ≤ limit t) → m ≤ limit t
      by true i e r = seat-within n b true p h.0 w.0 (eqb-true b.tenant t i) e
      by false i e r = r e

-- nobody is noted behind what it has begun
pub left-within : (y : NotedCore) (f : Fabric) → IsNoted y f → (limit : ℕ → ℕ) → IsWithin limit y → (t m : ℕ) → IsAt y.notes.items t m → m ≤ limit t
left-within y f h limit w t m a =
    all-within limit t m a.0 a.1 a.2 y.label.tenants y.berths.items y.waiting.items f.residents f.line h.residents h.line (within-points limit y f h.core w)
    (ap (place_of t) (sym h.replayed) ∙ a.3)
