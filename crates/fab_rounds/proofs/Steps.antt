-- What a call at a desk does to the sums of its seat.
use Rattle.std.proofs.Common.{◌≡◌, ℕ, ◌+◌, ◌≤◌, true, false, List, [], ◌∷◌, ◌++◌, append_assoc, append-nil, refl, sym, ap, ap₂, ◌∙◌, subst, arith, Some}
use Rattle.std.specs.Prelude.{All, Vec}
use Rattle.std.specs.declared.alloc.Global.{Global}
use Rattle.std.proofs.lemmas.List.Elements.{All-nil, All-cons, All-head, All-tail, All-push}
use Rattle.fab_core.specs.fab_lock.specs.declared.entry.Entry.{Entry}
use Rattle.fab_core.specs.fab_lock.specs.declared.entry.Kind.{Kind}
use Rattle.fab_core.specs.fab_lock.specs.declared.entry.Kind.TheVariants as kind
use Rattle.fab_core.specs.fab_lock.specs.Facts.{IsSeatOf}
use Rattle.fab_core.specs.fab_model.specs.declared.note.Note.{Note}
use Rattle.fab_core.specs.fab_model.specs.declared.transit.Transit.{Transit}
use Rattle.fab_core.specs.fab_model.specs.Deeds.{deed_in, deed_of}
use Rattle.fab_core.specs.fab_model.specs.Origins.{AreOwn, Origins}
use Rattle.fab_core.specs.fab_model.specs.Tokens.{out_at, outs, put_at, puts, told, token_of, Token}
use Rattle.fab_core.specs.fab_model.proofs.Owns.{leavers_own, own-parts}
use Rattle.fab_desk.specs.fab_bay.specs.declared.leaving.Leaving.{Leaving}
use Rattle.fab_core.specs.vl_design.specs.declared.capacity.Cost.{Cost}
use Rattle.fab_core.specs.ten_parcel.specs.Parcels.{cost_of, number_of, ticks_of}
use Rattle.fab_core.specs.fab_model.specs.Fabrics.{within}
use Rattle.fab_desk.specs.fab_bay.specs.declared.leaving.DeskError.TheVariants.{TooLarge}
use Rattle.fab_desk.specs.fab_bay.specs.declared.leaving.Receipt.{Receipt}
use Rattle.fab_desk.specs.fab_bay.specs.declared.leaving.Refused.{Refused}
use Rattle.fab_desk.specs.fab_bay.specs.Refusals.{IsRefusal}
use Rattle.fab_desk.specs.fab_bay.specs.declared.leaving.Turn.{Turn}
use Rattle.fab_desk.specs.fab_bay.specs.declared.noted.Label.{Label}
use Rattle.fab_desk.specs.fab_bay.specs.Ways.{tokens, transits, LeftFor}
use Rattle.fab_desk.specs.Desks.{serving, DeskView, DidNothing, DidPut, DidRefuse, DidTurn}
use Rattle.fab_rounds.specs.declared.workers.Worker.{Worker}
use Rattle.fab_orders.specs.Totals.{total}
use Rattle.fab_rounds.specs.Ledgers.{leaving_sum, pile_sum, reach, seat_outs, AreOut, DeskFacts, DeskSeatFacts, IsOut, IsWorker, Steps}
use Rattle.fab_rounds.proofs.Reach.{high_last, served_high, served_reach}
use Rattle.fab_orders.proofs.Totals.{total-append, total-map}
pub use Rattle.fab_core.specs.fab_model.proofs.Shared.{outs-append, puts-append}

module _ (v v' : DeskView) (found added : List Note) (s : v' ≡ serving v found added) where
  own : v'.own ≡ v.own ++ added
  own = ap (λ (x : DeskView). x.own) s

  pub served_outs : (f : Token → ℕ) → total f (outs v'.own) ≡ total f (outs v.own) + total f (outs added)
  served_outs f = ap (λ (l : List Note). total f (outs l)) own ∙ ap (total f) (outs-append v.own added) ∙ total-append f (outs v.own) (outs added)

  pub served_puts : (f : Token → ℕ) → total f (puts v'.own) ≡ total f (puts v.own) + total f (puts added)
  served_puts f = ap (λ (l : List Note). total f (puts l)) own ∙ ap (total f) (puts-append v.own added) ∙ total-append f (puts v.own) (puts added)

  pub served_low : v'.low ≡ v.low
  served_low = ap (λ (x : DeskView). x.low) s

-- ---- a put

line-put : (n : Note) (t : Transit) (e : Entry) (k : ℕ) → n.entry ≡ record { seat = k; kind = kind.Line; tenant = (token_of t).tenant; from = (token_of t).tick; to = (token_of t).tick } → deed_in n ≡ Some (deed_of t)
    → put_at n.entry.kind n ≡ token_of t ∷ []
line-put n t e k is d =
    ap (λ (x : Kind). put_at x n) (ap (λ (x : Entry). x.kind) is)
    ∙ ap₂ told is d

line-out : (n : Note) → n.entry.kind ≡ kind.Line → out_at n.entry.kind n ≡ []
line-out n e = ap (λ (x : Kind). out_at x n) e

module _ (label : Label) (t : Transit) (v v' : DeskView) (r : Receipt) (p : DidPut label t v v' r) where
  note : Note
  note = p.put.note

  pub put_puts : (f : Token → ℕ) → total f (puts v'.own) ≡ total f (puts v.own) + f (token_of t)
  unfolding note
  put_puts f =
      let e : put_at note.entry.kind note ++ [] ≡ token_of t ∷ [] = ap (λ (l : List Token). l ++ []) (line-put note t r.entry v.low (p.put.entry ∙ p.put.tells) p.put.deed) in
      omega (arith, served_puts v v' p.before.notes.items (note ∷ []) p.view f, ap (total f) e)

  pub put_outs : (f : Token → ℕ) → total f (outs v'.own) ≡ total f (outs v.own)
  unfolding note
  put_outs f =
      let e : out_at note.entry.kind note ++ [] ≡ [] = ap (λ (l : List Token). l ++ []) (line-out note (ap (λ (x : Entry). x.kind) (p.put.entry ∙ p.put.tells))) in
      omega (arith, served_outs v v' p.before.notes.items (note ∷ []) p.view f, ap (total f) e)

module _ (label : Label) (t : Transit) (s s' : DeskSeatFacts) (r : Receipt) (p : DidPut label t s.view s'.view r) where
  pub put_reach : (n : ℕ) → reach n s ≤ reach n s'
  put_reach = served_reach s s' p.before.notes.items (p.put.note ∷ []) p.view p.found.finds.begins

  pub put_far : ticks_of t.parcel ≤ reach (number_of t.parcel) s'
  put_far =
      let e = p.put.entry ∙ p.put.tells in
      let a = high_last (number_of t.parcel) p.before.notes.items p.put.note (ap (λ (x : Entry). x.tenant) e) in
      let b = served_high s s' p.before.notes.items (p.put.note ∷ []) p.view (number_of t.parcel) in
      omega (arith, a, b, ap (λ (x : Entry). x.to) e)

-- what is given back
pub refused_reach : (label : Label) (t : Transit) (s s' : DeskSeatFacts) (r : Refused) → DidRefuse label t s.view s'.view r → (n : ℕ) → reach n s ≤ reach n s'
refused_reach label t s s' r d = served_reach s s' d.found [] d.view d.finds.begins

-- ---- a turn

all_out : (origins : Origins) (ls : List Leaving) → All LeftFor ls → AreOwn origins (tokens (transits ls)) → All (IsOut origins) ls
all_out origins [] a o = All-nil (IsOut origins)
all_out origins (l ∷ ls) a o = All-cons (IsOut origins) l ls (record { left = All-head LeftFor l ls a; own = o.0 }) (all_out origins ls (All-tail LeftFor l ls a) o.1)

leaving-sum : (f : Token → ℕ) (ls : List Leaving) → total f (tokens (transits ls)) ≡ leaving_sum f ls
leaving-sum f ls = total-map f token_of (transits ls) ∙ total-map (λ (t : Transit). f (token_of t)) (λ (l : Leaving). l.transit) ls

module _ (label : Label) (most : ℕ) (v v' : DeskView) (t : Turn) (d : DidTurn label most v v' t) where
  added : List Note
  added = d.turned.goes.added

  pub turn_outs : (f : Token → ℕ) → total f (outs v'.own) ≡ total f (outs v.own) + leaving_sum f t.leaving.items
  turn_outs f = omega (arith, served_outs v v' d.before.notes.items d.turned.goes.added d.view f, ap (total f) d.turned.goes.outs, leaving-sum f t.leaving.items)

  pub turn_low : v'.low ≡ v.low
  turn_low = served_low v v' d.before.notes.items d.turned.goes.added d.view

  pub turn_out : All (IsOut label.origins) t.leaving.items
  turn_out =
      let g = d.turned.goes in
      let x = d.before in
      let y = d.after in
      let b = d.found.bay in
      let legal = (g.leads b.fabric [] b.noted tt).0.legal in
      let same : puts y.notes.items ≡ puts x.notes.items = ap puts g.notes ∙ puts-append x.notes.items g.added ∙ ap (λ (l : List Token). puts x.notes.items ++ l) g.puts ∙ append-nil (puts x.notes.items) in
      let own = subst (AreOwn label.origins) (sym same) d.found.finds.starts in
      let all = subst (AreOwn label.origins) (ap outs g.notes ∙ outs-append x.notes.items g.added) (leavers_own label.origins y.label.fabric y.label.capacity y.notes.items legal own) in
      all_out label.origins t.leaving.items d.turned.whys (subst (AreOwn label.origins) (sym g.outs) (own-parts label.origins (outs x.notes.items) (outs g.added) all).1)

module _ (label : Label) (v v' : DeskView) (d : DidNothing label v v') where
  pub nothing_outs : (f : Token → ℕ) → total f (outs v'.own) ≡ total f (outs v.own)
  nothing_outs f = omega (arith, served_outs v v' d.found [] d.view f)

  pub nothing_low : v'.low ≡ v.low
  nothing_low = served_low v v' d.found [] d.view

-- ---- steps of a worker

-- nothing came out
pub steps_idle : (desk : DeskFacts) (w w' : Worker) → IsWorker desk w → IsSeatOf desk w'.seat → w'.fabric ≡ w.fabric → w'.out.items ≡ w.out.items → w'.seat.view.low ≡ w.seat.view.low
    → ((f : Token → ℕ) → seat_outs f w'.seat ≡ seat_outs f w.seat) → Steps desk w w'
steps_idle desk w w' k s n o l e = record {
  worker = record { seat = s; apart = λ z. k.apart (sym l ∙ z); out = subst (AreOut desk.label.origins) (sym o) k.out };
  fabric = n;
  tied = λ f. omega (arith, e f, ap (pile_sum f) o);
}

-- this came out
pub steps_out : (desk : DeskFacts) (w w' : Worker) (leaving : Vec Leaving Global) → IsWorker desk w → IsSeatOf desk w'.seat → w'.fabric ≡ w.fabric → w'.out.items ≡ w.out.items ++ leaving ∷ [] → w'.seat.view.low ≡ w.seat.view.low
    → All (IsOut desk.label.origins) leaving.items → ((f : Token → ℕ) → seat_outs f w'.seat ≡ seat_outs f w.seat + leaving_sum f leaving.items) → Steps desk w w'
steps_out desk w w' leaving k s n o l a e = record {
  worker = record { seat = s; apart = λ z. k.apart (sym l ∙ z); out = subst (AreOut desk.label.origins) (sym o) (All-push (λ v. All (IsOut desk.label.origins) v.items) w.out.items leaving k.out a) };
  fabric = n;
  tied = λ f. omega (arith, e f, ap (pile_sum f) o, total-append (λ v. leaving_sum f v.items) w.out.items (leaving ∷ []));
}

-- one for which there is a place isn't too large
pub never_large : (label : Label) (t : Transit) (v v' : DeskView) (r : Refused) (a b : Cost) → DidRefuse label t v v' r → r.why ≡ TooLarge a b → within (cost_of t.parcel) label.capacity ≡ true → ⊥
never_large label t v v' r a b d is fits =
    let h : IsRefusal label.capacity d.found (token_of t) (TooLarge a b) = subst (IsRefusal label.capacity d.found (token_of t)) is d.why in
    let z : ◌≡◌ true false = sym fits ∙ h.2 in
    cc

-- what is given back
pub refused_outs : (label : Label) (t : Transit) (v v' : DeskView) (r : Refused) → DidRefuse label t v v' r → (f : Token → ℕ) → total f (outs v'.own) ≡ total f (outs v.own)
refused_outs label t v v' r d f = omega (arith, served_outs v v' d.found [] d.view f)

pub refused_puts : (label : Label) (t : Transit) (v v' : DeskView) (r : Refused) → DidRefuse label t v v' r → (f : Token → ℕ) → total f (puts v'.own) ≡ total f (puts v.own)
refused_puts label t v v' r d f = omega (arith, served_puts v v' d.found [] d.view f)
