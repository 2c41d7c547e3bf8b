-- Whoever is there stays there, by a history to which nobody's leaving is added.
use Rattle.std.proofs.Common.{◌≡◌, ◌≢◌, ℕ, Bool, true, false, List, [], ◌∷◌, ◌++◌, Option, Some, None, eqb, refl, sym, ap, ◌∙◌, subst}
use Rattle.std.specs.Prelude.{◌==◌, ◌||◌, is_some, position}
use Rattle.std.proofs.lemmas.Bool.{eqb-true}
use Rattle.vl_design.specs.declared.capacity.Cost.{Cost}
use Rattle.fab_core.specs.fab_lock.specs.declared.entry.Kind.{Kind}
use Rattle.fab_core.specs.fab_lock.specs.declared.entry.Kind.TheVariants.{Line, Came, Ran, Saved, Left}
use Rattle.fab_core.specs.fab_model.specs.Fabrics.{first_of, has, Fabric}
use Rattle.fab_core.specs.fab_model.specs.declared.note.Note.{Note}
use Rattle.fab_core.specs.fab_model.specs.Deeds.{deed_in, Deed}
use Rattle.fab_core.specs.fab_model.specs.Histories.{after, next, place_of, replay, Away, Inside, IsLegalFrom, May, Place, Seat}
use Rattle.fab_core.specs.fab_model.specs.Tokens.{out_at, outs, told}
use Rattle.fab_core.specs.fab_model.proofs.Legality.{not_away, place_here, place_other}
use Rattle.fab_bay.specs.declared.berth.Berth.{Berth}
use Rattle.fab_bay.specs.declared.noted.NotedCore.{NotedCore}
use Rattle.fab_bay.specs.Refusals.{IsAway}
use Rattle.fab_bay.specs.Rounds.{IsReady}
use Rattle.fab_bay.specs.Standing.{IsNoted}
use Rattle.fab_bay.specs.Ways.{Goes}
use Rattle.fab_bay.proofs.Going.{front-empty, replay-append}
use Rattle.fab_bay.proofs.Arriving.{away_of}
use Rattle.fab_core.proofs.Firsts.{first-some}
use Rattle.fab_bay.proofs.Places.{berth-place, waiters_berths}

pub known-out : (n : Note) (o : Option Deed) (d : Deed) → o ≡ Some d → told n.entry o ≡ [] → ⊥
known-out n None d e h = let z : ⊥ = cc in z
known-out n (Some x) d e h = let z : ⊥ = cc in z

-- a note of its own with which nobody leaves
next-there : (g : ℕ) (k : Kind) (p : Place) (n : Note) → May g k p n → out_at k n ≡ [] → p ≢ Away → next k p n ≢ Away
next-there g k Away n m o p = absurd (p refl)
next-there g Line (Inside since now c d) n m o p = absurd m
next-there g Came (Inside since now c d) n m o p = λ e. not_away since now true d e
next-there g Ran (Inside since now c d) n m o p = λ e. not_away since n.entry.to c d e
next-there g Saved (Inside since now c d) n m o p = p
next-there g Left (Inside since now c d) n m o p = absurd (known-out n (deed_in n) m.0.deed m.0.known o)

after-there : (g t : ℕ) (k : Kind) (ss : List Seat) (n : Note) → May g k (place_of n.entry.tenant ss) n → out_at k n ≡ [] → place_of t ss ≢ Away → place_of t (after k ss n) ≢ Away
after-there g t k ss n m o p = by (eqb n.entry.tenant t) refl
  where
    by : (v : Bool) → eqb n.entry.tenant t ≡ v → place_of t (after k ss n) ≢ Away
    by true e =
        let same : n.entry.tenant ≡ t = eqb-true n.entry.tenant t e in
        let here : place_of n.entry.tenant ss ≢ Away = subst (λ (i : ℕ). place_of i ss ≢ Away) (sym same) p in
        subst (λ (i : ℕ). place_of i (after k ss n) ≢ Away) same (λ a. next-there g k (place_of n.entry.tenant ss) n m o here (sym (place_here g k ss n m) ∙ a))
    by false e = λ a. p (sym (place_other k t ss n e) ∙ a)

replay-there : (g : ℕ) (c : Cost) (t : ℕ) (ss : List Seat) (ns : List Note) → IsLegalFrom g c ss ns → outs ns ≡ [] → place_of t ss ≢ Away → place_of t (replay ss ns) ≢ Away
replay-there g c t ss [] l o p = p
replay-there g c t ss (n ∷ ns) l o p =
    let b = front-empty (out_at n.entry.kind n) (outs ns) o in
    replay-there g c t (after n.entry.kind ss n) ns l.2 b.1 (after-there g t n.entry.kind ss n l.0 b.0 p)

pub legal-behind : (g : ℕ) (c : Cost) (ss : List Seat) (xs ys : List Note) → IsLegalFrom g c ss (xs ++ ys) → IsLegalFrom g c (replay ss xs) ys
legal-behind g c ss [] ys l = l
legal-behind g c ss (x ∷ xs) ys l = legal-behind g c (after x.entry.kind ss x) xs ys l.2

module _ (k n t : ℕ) (x y : NotedCore) (r : IsReady y) (w : Goes k n x y [] []) where
  pub stays-there : (IsAway x.notes.items t → ⊥) → IsAway y.notes.items t → ⊥
  stays-there there away =
      let g = y.label.fabric in
      let c = y.label.capacity in
      let legal : IsLegalFrom g c [] (x.notes.items ++ w.added) = subst (λ (ns : List Note). IsLegalFrom g c [] ns) w.notes r.noted.legal in
      replay-there g c t (replay [] x.notes.items) w.added (legal-behind g c [] x.notes.items w.added legal) (sym w.outs) there
      (ap (place_of t) (sym (replay-append [] x.notes.items w.added)) ∙ (ap (λ (ns : List Note). place_of t (replay [] ns)) (sym w.notes) ∙ away))

-- whoever isn't away is there
module _ (x : NotedCore) (f : Fabric) (t : ℕ) (n : IsNoted x f) where
  abbrev at : List Berth → Bool
  at bs = is_some (position (λ b. b.tenant == t) bs)

  residents : has t f ≡ (at x.berths.items || is_some (first_of t f.line))
  residents = ap (λ (v : Bool). v || is_some (first_of t f.line)) (sym (first-some t f.residents) ∙ ap is_some (sym (berth-place t x.label.tenants x.berths.items f.residents n.residents)))

  line : (at x.berths.items || is_some (first_of t f.line)) ≡ (at x.berths.items || at x.waiting.items)
  line =
      ap (λ (v : Bool). at x.berths.items || v)
      (sym (first-some t f.line) ∙ ap is_some (sym (berth-place t x.label.tenants x.waiting.items f.line (waiters_berths x.label.tenants x.waiting.items f.line n.line))))

  pub has-there : (IsAway x.notes.items t → ⊥) → has t f ≡ true
  has-there there = residents ∙ (line ∙ by (at x.berths.items || at x.waiting.items) refl)
    where
      by : (v : Bool) → (at x.berths.items || at x.waiting.items) ≡ v → v ≡ true
      by true e = refl
      by false e = absurd (there (away_of x f t n e))
