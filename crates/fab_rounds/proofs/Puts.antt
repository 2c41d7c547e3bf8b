-- A tenant that is put in line.
use Rattle.std.proofs.Common.{◌≡◌, ℕ, ◌+◌, ◌<◌, ◌≤◌, true, List, [], ◌∷◌, ◌++◌, length, get_or, set, refl, sym, ap, ◌∙◌, subst, arith, Some, None}
use Rattle.std.specs.Prelude.{All, Vec, slice_get}
use Rattle.std.specs.declared.alloc.Global.{Global}
use Rattle.std.specs.declared.snapshot.Snapshot.{Snapshot}
use Rattle.std.proofs.lemmas.List.{get_or-map, length-map}
use Rattle.std.proofs.lemmas.List.Elements.{All-push, All-weaker}
use Rattle.fab_core.specs.ten_core.specs.declared.origin.Origin.{Origin}
use Rattle.fab_core.specs.ten_parcel.specs.declared.parcel.Parcel.{Parcel}
use Rattle.fab_core.specs.ten_parcel.specs.Parcels.{cost_of, number_of, origin_in, ticks_of}
use Rattle.fab_core.specs.fab_model.specs.Fabrics.{within}
use Rattle.fab_core.specs.fab_model.specs.declared.transit.Transit.{Transit}
use Rattle.fab_core.specs.fab_model.specs.Origins.{Origins, StartsFrom}
use Rattle.fab_core.specs.fab_model.specs.Tokens.{token_of, Token}
use Rattle.fab_desk.specs.fab_bay.specs.declared.noted.Label.{Label}
use Rattle.fab_rounds.specs.declared.ledgers.Ledger.{Ledger}
use Rattle.fab_rounds.specs.declared.ledgers.Moving.{Moving}
use Rattle.fab_orders.specs.declared.outcomes.Cause.{Cause}
use Rattle.fab_orders.specs.declared.outcomes.Start.{Start}
use Rattle.fab_orders.specs.Totals.{total}
use Rattle.fab_orders.specs.Starts.{IsLabel, IsOwn, NamesOrigins}
use Rattle.fab_orders.specs.Orders.{ticks_told}
use Rattle.fab_orders.specs.Outcomes.{cause_of, IsCause, IsReason}
use Rattle.fab_rounds.specs.Ledgers.{errand_of, errands_of, found_there, labels_of, put_there, reach, reach_in, seat_outs, seat_puts, AreFirsts, DeskSeatFacts, DeskFacts, IsFirst, IsLedger, IsMoving, PutsOne}
use Rattle.fab_rounds.proofs.Kept.{more_answers}
use Rattle.fab_rounds.proofs.Lists.{own_within}
use Rattle.fab_rounds.proofs.Sets.{set_firsts, set_outs, set_puts, set_reach, set_there}
use Rattle.fab_orders.proofs.Totals.{total-append}

-- the label at a place
pub label_at : (desks : List DeskFacts) (labels : List Label) → labels_of desks ≡ labels → (i : ℕ) (d : DeskFacts) (e : Label) → i < length desks → get_or labels i e ≡ (get_or desks i d).label
label_at desks labels h i d e l = ap (λ (x : List Label). get_or x i e) (sym h) ∙ get_or-map (λ (x : DeskFacts). x.label) desks i d e l

pub labels_long : (desks : List DeskFacts) (labels : List Label) → labels_of desks ≡ labels → length labels ≡ length desks
labels_long desks labels h = ap length (sym h) ∙ length-map desks (λ (x : DeskFacts). x.label)

-- what is named for a tenant's number is what it starts from
pub starts_from : (starts : List Start) (o : Origins) (p : Parcel) → NamesOrigins starts o → IsOwn starts p → StartsFrom o (number_of p) (origin_in p)
starts_from starts None p n h = absurd n
starts_from starts (Some all) p n h = subst (λ (l : List Origin). slice_get l (number_of p) ≡ Some (origin_in p)) (sym n) h

pub is_own : (starts : List Start) (o : Origins) (p : Parcel) → NamesOrigins starts o → StartsFrom o (number_of p) (origin_in p) → IsOwn starts p
is_own starts None p n h = absurd n
is_own starts (Some all) p n h = subst (λ (l : List Origin). slice_get l (number_of p) ≡ Some (origin_in p)) n h

module _ (desks : List DeskFacts) (l : Ledger) (m : Moving) (desk : DeskFacts) (k : IsLedger desks l) (h : IsMoving l.loaded.value.items l.labels.value.items m) (is : desk ≡ get_or desks m.fabric desk) where
  starts : List Start
  starts = l.loaded.value.items

  within_desks : m.fabric < length desks
  within_desks = let p = h.place.0 in omega (arith, p, labels_long desks l.labels.value.items k.labels)

  label_is : get_or l.labels.value.items m.fabric desk.label ≡ desk.label
  label_is = label_at desks l.labels.value.items k.labels m.fabric desk desk.label within_desks ∙ sym (ap (λ (d : DeskFacts). d.label) is)

  pub moving_label : IsLabel l.loaded.value.items m.fabric desk.label
  moving_label = subst (λ (x : Label). IsLabel l.loaded.value.items m.fabric x) label_is (k.kept.labels m.fabric desk.label h.place.0)

  pub moving_tenant : number_of m.transit.parcel < desk.label.tenants
  moving_tenant = let a = own_within l.loaded.value.items m.transit.parcel h.own in let b = moving_label.tenants in omega (arith, a, b)

  pub moving_own : StartsFrom desk.label.origins (number_of m.transit.parcel) (origin_in m.transit.parcel)
  moving_own = starts_from l.loaded.value.items desk.label.origins m.transit.parcel moving_label.origins h.own

  pub moving_place : within (cost_of m.transit.parcel) desk.label.capacity ≡ true
  moving_place = ap (λ (x : Label). within (cost_of m.transit.parcel) x.capacity) (sym label_is) ∙ h.place.1 desk.label

  fabric : desk.label.fabric ≡ m.fabric
  fabric = moving_label.fabric

  module _ (seats : Vec DeskSeatFacts Global) (causes : Vec Cause Global) (seat old : DeskSeatFacts) (shown : Snapshot Transit) (shows : shown.value ≡ m.transit)
      (set_is : seats.items ≡ set l.firsts.items m.fabric seat) (pushed : causes.items ≡ l.causes.items ++ record { reason = m.reason; fabric = m.fabric; transit = shown } ∷ [])
      (was : old ≡ get_or l.firsts.items m.fabric old) (first : IsFirst desk seat) (puts : (f : Token → ℕ) → seat_puts f seat ≡ seat_puts f old + f (token_of m.transit)) (outs : (f : Token → ℕ) → seat_outs f seat ≡ seat_outs f old)
      (reaches : (t : ℕ) → reach t old ≤ reach t seat) (there : ticks_of m.transit.parcel ≤ reach (number_of m.transit.parcel) seat) where
    set_is_first : AreFirsts desks (set l.firsts.items m.fabric seat)
    set_is_first = set_firsts desks l.firsts.items k.firsts m.fabric desk is within_desks fabric old seat was first

    put_more : (f : ℕ → Token → ℕ) → total (put_there f) seats.items ≡ total (put_there f) l.firsts.items + f m.fabric (token_of m.transit)
    put_more f = ap (total (put_there f)) set_is ∙ set_puts desks l.firsts.items k.firsts m.fabric desk is within_desks fabric old seat was first (λ h. h (token_of m.transit)) puts f

    out_same : (f : ℕ → Token → ℕ) → total (found_there f) seats.items ≡ total (found_there f) l.firsts.items
    out_same f =
        let h = set_outs desks l.firsts.items k.firsts m.fabric desk is within_desks fabric old seat was first (λ h. 0) (λ h. omega (arith, outs h)) f in
        omega (arith, ap (total (found_there f)) set_is, h)

    reach_more : (t : ℕ) → reach_in t l.firsts.items ≤ reach_in t seats.items
    reach_more t = subst (λ (ss : List DeskSeatFacts). reach_in t l.firsts.items ≤ reach_in t ss) (sym set_is) (set_reach desks l.firsts.items k.firsts m.fabric desk is within_desks fabric old seat was first reaches t)

    errands_more : (t : ℕ) → errands_of t l.causes.items ≤ errands_of t causes.items
    errands_more t = omega (
      arith,
      ap (errands_of t) pushed,
      total-append (λ (c : Cause). errand_of t c.reason (number_of c.transit.value.parcel)) l.causes.items (record { reason = m.reason; fabric = m.fabric; transit = shown } ∷ []),
    )

    pub puts_one : PutsOne desks m.transit l (record l { firsts = seats; causes = causes })
    puts_one = record {
      ledger = record {
        kept = record {
          labels = k.kept.labels;
          starts = k.kept.starts;
          moving = k.kept.moving;
          done = k.kept.done;
          causes = subst (All (IsCause l.loaded.value.items)) (sym pushed) (All-push (IsCause l.loaded.value.items) l.causes.items (record { reason = m.reason; fabric = m.fabric; transit = shown }) k.kept.causes (subst (IsReason l.loaded.value.items m.reason m.fabric) (sym shows) h.reason));
          caused = λ f. omega (
            arith,
            put_more f,
            k.kept.caused f,
            ap (total (cause_of f)) pushed,
            total-append (cause_of f) l.causes.items (record { reason = m.reason; fabric = m.fabric; transit = shown } ∷ []),
            ap (λ (t : Transit). f m.fabric (token_of t)) shows,
          );
          found = λ f. out_same f ∙ k.kept.found f;
          asked = k.kept.asked;
          orders = k.kept.orders;
          answers = more_answers l.loaded.value.items l.causes.items causes.items l.done.items l.done.items errands_more (λ f. omega arith) l.answers.items k.kept.answers;
          over = k.kept.over;
          far = λ t. All-weaker (λ j. j ≤ reach_in t l.firsts.items) (λ j. j ≤ reach_in t seats.items) (λ j q. omega (arith, q, reach_more t)) (ticks_told t l.answers.items) (k.kept.far t);
          watches = k.kept.watches;
        };
        labels = k.labels;
        firsts = subst (AreFirsts desks) (sym set_is) set_is_first;
      };
      same = (refl, refl, refl);
      moving = refl;
      done = refl;
      answers = (refl, refl);
      reach = reach_more;
      there = subst (λ (ss : List DeskSeatFacts). ticks_of m.transit.parcel ≤ reach_in (number_of m.transit.parcel) ss) (sym set_is)
          (let a = set_there desks l.firsts.items k.firsts m.fabric desk is within_desks fabric old seat was first (number_of m.transit.parcel) in omega (arith, there, a));
      puts = λ f. put_more (λ g. f);
      outs = λ f. out_same (λ g. f);
    }
