-- What a history tells of a tenant that left.
use Rattle.std.proofs.Common.{◌≡◌, ℕ, ◌≤◌, eqb, Bool, true, false, List, [], ◌∷◌, refl, arith, Option, Some, None}
use Rattle.std.specs.Prelude.{All, ◌&&◌, nat_le}
use Rattle.std.proofs.lemmas.Bool.{eqb-true, leb-true}
use Rattle.std.proofs.lemmas.List.Elements.{All-append, All-cons, All-nil, All-weaker}
use Rattle.fab_core.specs.vl_design.specs.declared.capacity.Cost.{Cost}
use Rattle.fab_core.specs.fab_lock.specs.declared.entry.Entry.{Entry}
use Rattle.fab_core.specs.fab_lock.specs.declared.entry.Kind.{Kind}
use Rattle.fab_core.specs.fab_lock.specs.declared.entry.Kind.TheVariants.{Line, Came, Ran, Saved, Left}
use Rattle.fab_core.specs.fab_lock.specs.Histories.{high}
use Rattle.fab_core.specs.fab_model.specs.Fabrics.{within}
use Rattle.fab_core.specs.fab_model.specs.declared.note.Note.{Note}
use Rattle.fab_core.specs.fab_model.specs.declared.transit.Stay.{Stay}
use Rattle.fab_core.specs.fab_model.specs.Deeds.{cost_of, deed_in, Deed}
use Rattle.fab_core.specs.fab_model.specs.Histories.{after, fits_alone, place_of, Away, HasRoom, Inside, stays_of, IsLegalFrom, May, Place, Seat}
use Rattle.fab_core.specs.fab_model.specs.Stays.{chains}
use Rattle.fab_core.specs.fab_model.specs.Tokens.{out_at, outs, put_at, puts, told, Token}
use Rattle.fab_core.specs.fab_model.specs.Histories.{entry_of}
use Rattle.fab_desk.specs.fab_bay.specs.declared.noted.NotedCore.{NotedCore}
use Rattle.fab_orders.specs.Totals.{total}
use Rattle.fab_orders.specs.Outcomes.{stays_there}
use Rattle.fab_rounds.proofs.Conserved.{each, kept_all, nothing, worth, IsOneClosed}
use Rattle.fab_orders.proofs.Totals.{total_none}
use Rattle.fab_rounds.proofs.Reach.{high_head, high_tail}
use Rattle.fab_core.specs.vl_base.proofs.Booleans.{and_parts as same_from}

-- ---- ticks

module _ (n : Note) (ns : List Note) where
  abbrev IsSeen : Token → Type 0
  IsSeen x = x.tick ≤ high entry_of x.tenant (n ∷ ns)

  told_seen : (o : Option Deed) → n.entry.from ≤ n.entry.to → All IsSeen (told n.entry o)
  told_seen None l = All-nil IsSeen
  told_seen (Some d) l = All-cons IsSeen (record { tenant = n.entry.tenant; tick = n.entry.from; deed = d }) [] (let h = high_head n.entry.tenant n ns refl in omega (arith, l, h)) (All-nil IsSeen)

  out_seen : (g : ℕ) (k : Kind) (p : Place) → May g k p n → All IsSeen (out_at k n)
  out_seen g Line p m = All-nil IsSeen
  out_seen g Came p m = All-nil IsSeen
  out_seen g Ran p m = All-nil IsSeen
  out_seen g Saved p m = All-nil IsSeen
  out_seen g Left Away m = absurd m
  out_seen g Left (Inside since now c d) m = told_seen (deed_in n) (let a = m.0.from in let b = m.1 in omega (arith, a, b))

-- whoever left, its notes go as far as the tick at which it did
pub outs_seen : (g : ℕ) (c : Cost) (ss : List Seat) (ns : List Note) → IsLegalFrom g c ss ns → All (λ x. x.tick ≤ high entry_of x.tenant ns) (outs ns)
outs_seen g c ss [] l = All-nil (λ x. x.tick ≤ high entry_of x.tenant [])
outs_seen g c ss (n ∷ ns) l = All-append (λ x. x.tick ≤ high entry_of x.tenant (n ∷ ns)) (out_at n.entry.kind n) (outs ns) (out_seen n ns g n.entry.kind (place_of n.entry.tenant ss) l.0)
    (All-weaker (λ (x : Token). x.tick ≤ high entry_of x.tenant ns) (λ (x : Token). x.tick ≤ high entry_of x.tenant (n ∷ ns)) (λ x h. let a = high_tail x.tenant n ns in omega (arith, h, a)) (outs ns) (outs_seen g c (after n.entry.kind ss n) ns l.2))

-- ---- room

module _ (c : Cost) where
  abbrev Fits : Token → Type 0
  Fits x = within (cost_of x.deed) c ≡ true

  told_fits : (e : Entry) (o : Option Deed) → fits_alone c o ≡ true → All Fits (told e o)
  told_fits e None h = All-nil Fits
  told_fits e (Some d) h = All-cons Fits (record { tenant = e.tenant; tick = e.from; deed = d }) [] h (All-nil Fits)

  put_fits : (k : Kind) (ss : List Seat) (n : Note) → HasRoom c k ss n → All Fits (put_at k n)
  put_fits Line ss n h = told_fits n.entry (deed_in n) h
  put_fits Came ss n h = All-nil Fits
  put_fits Ran ss n h = All-nil Fits
  put_fits Saved ss n h = All-nil Fits
  put_fits Left ss n h = All-nil Fits

  -- whoever was put in line fits alone
  pub puts_fit : (g : ℕ) (ss : List Seat) (ns : List Note) → IsLegalFrom g c ss ns → All Fits (puts ns)
  puts_fit g ss [] l = All-nil Fits
  puts_fit g ss (n ∷ ns) l = All-append Fits (put_at n.entry.kind n) (puts ns) (put_fits n.entry.kind ss n l.1) (puts_fit g (after n.entry.kind ss n) ns l.2)

-- ---- who was put in line

-- no more of a number left than were put in line
pub puts_first : (t : ℕ) (y : NotedCore) → IsOneClosed y → total (worth t each nothing) (outs y.notes.items) ≤ total (worth t each nothing) (puts y.notes.items)
puts_first t y k = let a = kept_all t each nothing (y ∷ []) (k, tt) in let b : stays_there t nothing y ≡ 0 = total_none nothing (λ x. refl) (stays_of y.label.fabric t y.notes.items) in omega (arith, a, b)

-- ---- stays

-- stays that chain go on from the first tick
pub chains_on : (s : ℕ) (xs : List Stay) (k : ℕ) → chains s xs k ≡ true → s ≤ k
chains_on s [] k e = let a = eqb-true s k e in omega (arith, a)
chains_on s (x ∷ xs) k e =
    let a = same_from (eqb x.from s) (nat_le x.from x.to && chains x.to xs k) e in
    let b = same_from (nat_le x.from x.to) (chains x.to xs k) a.1 in
    let f = eqb-true x.from s a.0 in
    let l = leb-true x.from x.to b.0 in
    let r = chains_on x.to xs k b.1 in
    omega (arith, f, l, r)
