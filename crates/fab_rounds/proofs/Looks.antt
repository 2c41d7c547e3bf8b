-- Looks at desks for a tenant.
use Rattle.std.proofs.Common.{◌≡◌, ℕ, ◌+◌, ◌<◌, ◌≤◌, ◌⊎◌, inl, inr, eqb, Bool, true, false, cond, List, [], ◌∷◌, ◌++◌, length, get_or, set, append-nil, eq-eqb, max, refl, sym, ap, ◌∙◌, subst, arith, Option, Some, None}
use mathlib.Core.Logic.{dite}
use native.Mathlib.Decide.{dec_lt}
use Rattle.std.specs.Prelude.{All, Vec, slice_get}
use Rattle.std.specs.declared.alloc.Global.{Global}
use Rattle.std.specs.declared.snapshot.Snapshot.{Snapshot}
use Rattle.std.proofs.lemmas.Bool.{eqb-true}
use Rattle.std.proofs.lemmas.List.{append_cancel_left, get_or_default}
use Rattle.std.proofs.lemmas.List.Elements.{All-cons, All-head, All-nil, All-tail}
use Rattle.std.proofs.lemmas.Option.{get_or_from_slice_get, same_Some}
use Rattle.fab_core.specs.vl_design.specs.Alone as alone
use Rattle.fab_core.specs.vl_design.specs.Alone.{first_tick}
use Rattle.fab_core.specs.vl_design.specs.Costs.{saturated_cost}
use Rattle.fab_core.specs.vl_design.specs.Cost.{cost}
use Rattle.fab_core.specs.ten_core.specs.declared.origin.Origin.{Origin}
use Rattle.fab_core.specs.ten_core.specs.Tenants.{origin_of}
use Rattle.fab_core.specs.ten_parcel.specs.Parcels.{cost_of, is_moved, number_of, origin_in, run_of, ticks_of}
use Rattle.fab_core.specs.fab_lock.specs.Facts.{IsSeatOf}
use Rattle.fab_core.specs.fab_lock.specs.Histories.{high, notes_of}
use Rattle.fab_core.specs.fab_lock.specs.Views.{after_glance}
use Rattle.fab_core.specs.fab_model.specs.Fabrics.{within}
use Rattle.fab_core.specs.fab_model.specs.Points.{Point}
use Rattle.fab_core.specs.fab_model.specs.Worlds.{run}
use Rattle.fab_core.specs.Standing.{IsPointOf}
use Rattle.fab_core.specs.fab_model.specs.declared.note.Note.{Note}
use Rattle.fab_core.specs.fab_model.specs.declared.transit.Stay.{Stay}
use Rattle.fab_core.specs.fab_model.specs.declared.transit.Transit.{Transit}
use Rattle.fab_core.specs.fab_model.specs.Deeds as deeds
use Rattle.fab_core.specs.fab_model.specs.Moves.{ends_idle}
use Rattle.fab_core.specs.fab_model.specs.Origins.{AreOwn, Origins, StartsFrom}
use Rattle.fab_core.specs.fab_model.specs.Stays.{chains}
use Rattle.fab_core.specs.fab_model.specs.Tokens.{outs, puts, token_of, Token}
use Rattle.fab_core.specs.fab_model.proofs.Owns.{leavers_own, own-parts}
use Rattle.fab_desk.specs.fab_bay.specs.declared.leaving.Found.TheVariants.{Here, Absent}
use Rattle.fab_desk.specs.fab_bay.specs.declared.leaving.Taken.{Taken}
use Rattle.fab_desk.specs.fab_bay.specs.declared.noted.Label.{Label}
use Rattle.fab_desk.specs.fab_bay.specs.declared.noted.NotedCore.{NotedCore}
use Rattle.fab_desk.specs.fab_bay.specs.Standing.{IsNoted}
use Rattle.fab_desk.specs.fab_bay.specs.Taking as taking
use Rattle.fab_desk.specs.fab_bay.specs.Ways.{AreOut}
use Rattle.fab_core.specs.fab_model.specs.Histories.{entry_of}
use Rattle.fab_desk.specs.Desks.{DeskView, DidTake}
use Rattle.fab_rounds.specs.declared.ledgers.Ledger.{Ledger}
use Rattle.fab_orders.specs.declared.outcomes.Answer.{Answer}
use Rattle.fab_orders.specs.declared.outcomes.Cause.{Cause}
use Rattle.fab_orders.specs.declared.outcomes.Finding.{Finding}
use Rattle.fab_orders.specs.declared.outcomes.Reached.{Reached}
use Rattle.fab_orders.specs.declared.outcomes.Reached.TheVariants as reached
use Rattle.fab_orders.specs.declared.outcomes.Reason.{Reason}
use Rattle.fab_orders.specs.declared.outcomes.Reason.TheVariants.{First, Errand}
use Rattle.fab_orders.specs.declared.outcomes.Start.{Start}
use Rattle.fab_orders.specs.declared.outcomes.Wanted.{Wanted}
use Rattle.fab_orders.specs.declared.outcomes.Wanted.TheVariants as wanted
use Rattle.fab_orders.specs.Totals.{total}
use Rattle.fab_orders.specs.Starts.{HasPlaceFor, IsLabel, IsOwn, NamesOrigins}
use Rattle.fab_orders.specs.Orders.{put_by, put_for, with_save}
use Rattle.fab_orders.specs.Outcomes.{cause_of, IsCause, IsReason, IsUnended}
use Rattle.fab_rounds.specs.Ledgers.{errand_of, errands_of, found_there, put_there, reach, reach_in, seat_puts, AreFirsts, DeskSeatFacts, DeskFacts, IsFinding, IsFirst, IsKept, IsLedger, IsSound}
use Rattle.fab_rounds.specs.Tries.{Seeks, TakesOut}
use Rattle.fab_rounds.proofs.Begins.{total_least, total_some}
use Rattle.fab_rounds.proofs.Conserved.{each, nothing, puts_by_zero, worth, IsOneClosed}
use Rattle.fab_rounds.proofs.Lists.{own_origin, own_within}
use Rattle.fab_rounds.proofs.Puts.{is_own, label_at, labels_long}
use Rattle.fab_rounds.proofs.Reach.{glanced_far, glanced_reach, served_high, served_reach}
use Rattle.fab_rounds.proofs.Sets.{set_firsts, set_outs, set_puts, set_reach, set_there}
use Rattle.fab_rounds.proofs.Steps.{outs-append, puts-append, served_outs, served_puts}
use Rattle.fab_rounds.proofs.Taken.{all_last}
use Rattle.fab_orders.proofs.Totals.{total-append, total_none}
use Rattle.fab_rounds.proofs.Visits.{chains_on, outs_seen, puts_first, puts_fit}
use Rattle.fab_core.specs.vl_base.proofs.Lists.{all_both as both_all}

-- ---- why it was put in line at all

counts_one : (b : Bool) (d : ℕ) → 0 < cond b d 0 → b ≡ true
counts_one true d l = refl
counts_one false d l = absurd (omega (arith, l))

is_tenant : (n : ℕ) (x : Token) → 0 < worth n each nothing x → x.tenant ≡ n
is_tenant n x l = eqb-true x.tenant n (counts_one (eqb x.tenant n) _ l)

module _ (starts : List Start) (causes : List Cause) (done : List Transit) (n : ℕ) where
  abbrev weight : ℕ → Token → ℕ
  weight h x = worth n each nothing x

  errand_counts : (r : Reason) (m : ℕ) → r ≡ Errand → m ≡ n → errand_of n r m ≡ 1
  errand_counts r m e f = ap (λ (x : Reason). errand_of n x m) e ∙ ap (λ (x : ℕ). errand_of n Errand x) f ∙ ap (λ (b : Bool). cond b 1 0) (eq-eqb n n refl)

  by_cause : (c : Cause) (r : Reason) → c.reason ≡ r → IsReason starts r c.fabric c.transit.value → number_of c.transit.value.parcel ≡ n → (d : Start) → IsUnended (get_or starts n d).transit.parcel ⊎ (0 < errand_of n c.reason (number_of c.transit.value.parcel))
  by_cause c First e h m d =
      let at = subst (λ (k : ℕ). slice_get starts k ≡ Some (record { fabric = c.fabric; transit = c.transit.value })) m h.0 in
      inl (subst (λ (s : Start). IsUnended s.transit.parcel) (sym (get_or_from_slice_get starts n (record { fabric = c.fabric; transit = c.transit.value }) d at)) h.1)
  by_cause c Errand e h m d = inr (omega (arith, errand_counts c.reason (number_of c.transit.value.parcel) e m))

  later : {A : Type 0} (a b : ℕ) → A ⊎ (0 < b) → A ⊎ (0 < a + b)
  later a b (inl x) = inl x
  later a b (inr l) = inr (omega (arith, l))

  sooner : {A : Type 0} (a b : ℕ) → A ⊎ (0 < a) → A ⊎ (0 < a + b)
  sooner a b (inl x) = inl x
  sooner a b (inr l) = inr (omega (arith, l))

  by_causes : (cs : List Cause) → All (IsCause starts) cs → 0 < total (cause_of weight) cs → (d : Start) → IsUnended (get_or starts n d).transit.parcel ⊎ (0 < errands_of n cs)
  by_causes [] a l d = absurd (omega (arith, l))
  by_causes (c ∷ cs) a l d = dite (dec_lt 0 (cause_of weight c))
      (λ h. sooner (errand_of n c.reason (number_of c.transit.value.parcel)) (errands_of n cs) (by_cause c c.reason refl (All-head (IsCause starts) c cs a) (is_tenant n (token_of c.transit.value) h) d))
      (λ z. later (errand_of n c.reason (number_of c.transit.value.parcel)) (errands_of n cs) (by_causes cs (All-tail (IsCause starts) c cs a) (omega (arith, l, z)) d))

  by_finding : (t k : ℕ) (x : Finding) → IsFinding starts causes t k x → number_of x.transit.value.parcel ≡ n → (d : Start) → IsUnended (get_or starts n d).transit.parcel ⊎ (0 < errands_of n causes)
  by_finding t k x h m d = subst (λ (j : ℕ). IsUnended (get_or starts j d).transit.parcel ⊎ (0 < errands_of j causes)) (sym h.number ∙ m) (h.begun d)

  by_answer : (t : ℕ) (w : Wanted) (r : Reached) (x : Option Finding) → IsSound starts causes done t w r x → 0 < put_for weight w r x → (d : Start) → IsUnended (get_or starts n d).transit.parcel ⊎ (0 < errands_of n causes)
  by_answer t (wanted.Move g) (reached.At k) (Some x) h l d = by_finding t k x h (is_tenant n (token_of x.transit.value) l) d
  by_answer t (wanted.Save name) (reached.At k) (Some x) h l d = by_finding t k x h (is_tenant n (with_save name (token_of x.transit.value)) l) d
  by_answer t (wanted.Move g) (reached.At k) None h l d = absurd h
  by_answer t (wanted.Move g) (reached.Ended k) x h l d = absurd (omega (arith, l))
  by_answer t (wanted.Save name) (reached.At k) None h l d = absurd h
  by_answer t (wanted.Save name) (reached.Ended k) x h l d = absurd (omega (arith, l))
  by_answer t wanted.Stop r x h l d = absurd (omega (arith, l))
  by_answer t wanted.Watch r x h l d = absurd (omega (arith, l))

pub has_begun : (l : Ledger) (n : ℕ) → IsKept l → 0 < total (put_there (λ h. worth n each nothing)) l.firsts.items → (d : Start) → IsUnended (get_or l.loaded.value.items n d).transit.parcel ⊎ (0 < errands_of n l.causes.items)
has_begun l n k some d =
    let starts = l.loaded.value.items in
    let causes = l.causes.items in
    let f : ℕ → Token → ℕ = λ h. worth n each nothing in
    let e = k.caused f in
    dite (dec_lt 0 (total (cause_of f) causes))
    (λ h. by_causes starts causes l.done.items n causes k.causes h d)
    (λ z.
    let a = total_some (λ (a : Answer). (a.order.value.tenant < length starts) × IsSound starts causes l.done.items a.order.value.tenant a.order.value.wanted a.reached a.finding) (put_by f) l.answers.items k.answers (omega (arith, some, e, z)) in
    by_answer starts causes l.done.items n a.0.order.value.tenant a.0.order.value.wanted a.0.reached a.0.finding a.1.1 a.2 d)

-- ---- a tenant that came out

one_origin : (starts : List Start) (o : Origins) (n : ℕ) (a b : Origin) → NamesOrigins starts o → StartsFrom o n a → StartsFrom o n b → a ≡ b
one_origin starts None n a b h p q = absurd h
one_origin starts (Some all) n a b h p q = same_Some a b (sym p ∙ q)

own_all : (o : Origins) (xs : List Token) → AreOwn o xs → All (λ z. StartsFrom o z.tenant z.deed.origin) xs
own_all o [] h = All-nil (λ (z : Token). StartsFrom o z.tenant z.deed.origin)
own_all o (x ∷ xs) h = All-cons (λ (z : Token). StartsFrom o z.tenant z.deed.origin) x xs h.0 (own_all o xs h.1)

one_out : (t : Transit) (ps : List Point) → AreOut (t ∷ []) ps → (p : Point) × IsPointOf t.parcel p
one_out t [] h = absurd h
one_out t (p ∷ ps) h = (p, h.0)

module _ (desks : List DeskFacts) (l : Ledger) (k : IsLedger desks l) (i : ℕ) (lt : i < length desks) (desk : DeskFacts) (is : desk ≡ get_or desks i desk) (old seat : DeskSeatFacts) (was : old ≡ get_or l.firsts.items i old)
    (of : IsSeatOf desk seat) (n : ℕ) (t : Taken) (did : DidTake desk.label n old.view seat.view t) where
  abbrev starts : List Start
  starts = l.loaded.value.items

  abbrev labels : List Label
  labels = l.labels.value.items

  abbrev x : NotedCore
  x = did.before

  abbrev y : NotedCore
  y = did.after

  label_is : get_or labels i desk.label ≡ desk.label
  label_is = label_at desks labels k.labels i desk desk.label lt ∙ sym (ap (λ (d : DeskFacts). d.label) is)

  in_labels : i < length labels
  in_labels = let a = labels_long desks labels k.labels in omega (arith, lt, a)

  label : IsLabel starts i desk.label
  label = subst (λ (d : Label). IsLabel starts i d) label_is (k.kept.labels i desk.label in_labels)

  old_first : IsFirst desk old
  old_first = subst (λ (d : DeskFacts). IsFirst d old) (sym is) (subst (IsFirst (get_or desks i desk)) (sym was) (k.firsts.each i desk old lt))

  here : IsFirst desk seat
  here = (of, ap (λ (v : DeskView). v.low) did.view ∙ old_first.1)

  reach_more : (m : ℕ) → reach m old ≤ reach m seat
  reach_more = served_reach old seat x.notes.items did.added did.view did.found.finds.begins

  -- nobody came out
  pub seeks_one : t.found ≡ Absent → (v : Vec DeskSeatFacts Global) → v.items ≡ set l.firsts.items i seat → Seeks desks l (record l { firsts = v })
  seeks_one absent v set_is =
      let h = subst (taking.IsFound old.view.low n x y t) absent did.taken.1 in
      let none : did.added ≡ [] = append_cancel_left x.notes.items did.added [] (sym did.notes ∙ h.1 ∙ sym (append-nil x.notes.items)) in
      record {
        rest = refl;
        firsts = subst (AreFirsts desks) (sym set_is) (set_firsts desks l.firsts.items k.firsts i desk is lt label.fabric old seat was here);
        puts = λ f. let a = set_puts desks l.firsts.items k.firsts i desk is lt label.fabric old seat was here (λ g. 0) (λ g. let b = served_puts old.view seat.view x.notes.items did.added did.view g in omega (arith, b, ap (λ (ns : List Note). total g (puts ns)) none)) f in
            omega (arith, a, ap (total (put_there f)) set_is);
        outs = λ f. let a = set_outs desks l.firsts.items k.firsts i desk is lt label.fabric old seat was here (λ g. 0) (λ g. let b = served_outs old.view seat.view x.notes.items did.added did.view g in omega (arith, b, ap (λ (ns : List Note). total g (outs ns)) none)) f in
            omega (arith, a, ap (total (found_there f)) set_is);
        reach = λ m. subst (λ (ss : List DeskSeatFacts). reach_in m l.firsts.items ≤ reach_in m ss) (sym set_is) (set_reach desks l.firsts.items k.firsts i desk is lt label.fabric old seat was here reach_more m);
      }

  -- it came out
  module _ (out : Transit) (found : t.found ≡ Here out) where
    h : taking.IsFound old.view.low n x y t (Here out)
    h = subst (taking.IsFound old.view.low n x y t) found did.taken.1

    added_is : did.added ≡ h.1.goes.added
    added_is = append_cancel_left x.notes.items did.added h.1.goes.added (sym did.notes ∙ h.1.goes.notes)

    added_puts : puts did.added ≡ []
    added_puts = ap puts added_is ∙ h.1.goes.puts

    added_outs : outs did.added ≡ token_of out ∷ []
    added_outs = ap outs added_is ∙ sym h.1.goes.outs

    notes_are : y.notes.items ≡ x.notes.items ++ did.added
    notes_are = did.notes

    led : IsNoted y (run h.1.goes.events (record { fabric = did.found.bay.fabric; transit = [] })).fabric × AreOut (out ∷ []) (run h.1.goes.events (record { fabric = did.found.bay.fabric; transit = [] })).transit
    led = h.1.goes.leads did.found.bay.fabric [] did.found.bay.noted tt

    y_label : y.label ≡ desk.label
    y_label = h.1.goes.label ∙ did.found.label_is

    y_puts : puts y.notes.items ≡ puts x.notes.items
    y_puts = ap puts notes_are ∙ puts-append x.notes.items did.added ∙ ap (λ (l : List Token). puts x.notes.items ++ l) added_puts ∙ append-nil (puts x.notes.items)

    y_outs : outs y.notes.items ≡ outs x.notes.items ++ token_of out ∷ []
    y_outs = ap outs notes_are ∙ outs-append x.notes.items did.added ∙ ap (λ (l : List Token). outs x.notes.items ++ l) added_outs

    y_own : AreOwn y.label.origins (puts y.notes.items)
    y_own = subst (λ (d : Label). AreOwn d.origins (puts y.notes.items)) (sym y_label) (subst (AreOwn desk.label.origins) (sym y_puts) did.found.finds.starts)

    closed : IsOneClosed y
    closed = record { label = refl; legal = led.0.legal; lines = led.0.lines (ap (λ (d : Label). d.any_puts) y_label ∙ label.any_puts); own = y_own }

    out_starts : StartsFrom y.label.origins (number_of out.parcel) (origin_in out.parcel)
    out_starts = (own-parts y.label.origins (outs x.notes.items) (token_of out ∷ []) (subst (AreOwn y.label.origins) y_outs (leavers_own y.label.origins y.label.fabric y.label.capacity y.notes.items led.0.legal y_own))).1.0

    own : IsOwn starts out.parcel
    own = is_own starts desk.label.origins out.parcel label.origins (subst (λ (d : Label). StartsFrom d.origins (number_of out.parcel) (origin_in out.parcel)) y_label out_starts)

    -- it was put in line there
    came : 0 < total (worth n each nothing) (puts y.notes.items)
    came =
        let a = puts_first n y closed in
        let b = ap (total (worth n each nothing)) y_outs in
        let c = total-append (worth n each nothing) (outs x.notes.items) (token_of out ∷ []) in
        let d : worth n each nothing (token_of out) ≡ 1 = ap (λ (b : Bool). cond b (1 + total nothing out.stays.items) 0) (eq-eqb (number_of out.parcel) n h.0) ∙ no_stays out.stays.items in
        omega (arith, a, b, c, d)
      where
        no_stays : (xs : List Stay) → 1 + total nothing xs ≡ 1
        no_stays xs = omega (arith, total_none nothing (λ s. refl) xs)

    seat_came : 0 < seat_puts (worth n each nothing) old
    seat_came =
        let f = worth n each nothing in
        let finds = did.found.finds in
        let low : old.view.low ≡ 0 = old_first.1 in
        let a : notes_of entry_of 0 x.notes.items ≡ old.view.own = subst (λ (j : ℕ). notes_of entry_of j x.notes.items ≡ old.view.own) low finds.own in
        omega (arith, came, ap (total f) y_puts, puts_by_zero f x.notes.items (finds.lines label.any_puts), ap (λ (ns : List Note). total f (puts ns)) a)

    in_firsts : i < length l.firsts.items
    in_firsts = let c = k.firsts.count in omega (arith, lt, c)

    put_once : 0 < total (put_there (λ g. worth n each nothing)) l.firsts.items
    put_once =
        let a = total_least (put_there (λ g. worth n each nothing)) l.firsts.items i old in_firsts in
        omega (arith, seat_came, a, ap (seat_puts (worth n each nothing)) was)

    fits : within (cost_of out.parcel) desk.label.capacity ≡ true
    fits =
        let f = worth n each nothing in
        let p = total_some (λ (z : Token). (within (deeds.cost_of z.deed) y.label.capacity ≡ true) × StartsFrom y.label.origins z.tenant z.deed.origin) f (puts y.notes.items)
        (both_all (λ (z : Token). within (deeds.cost_of z.deed) y.label.capacity ≡ true) (λ (z : Token). StartsFrom y.label.origins z.tenant z.deed.origin) (puts y.notes.items) (puts_fit y.label.capacity y.label.fabric [] y.notes.items led.0.legal) (own_all y.label.origins (puts y.notes.items) y_own)) came in
        let same : p.0.tenant ≡ number_of out.parcel = is_tenant n p.0 p.2 ∙ sym h.0 in
        let o : p.0.deed.origin ≡ origin_in out.parcel = one_origin starts y.label.origins (number_of out.parcel) p.0.deed.origin (origin_in out.parcel) (subst (λ (d : Label). NamesOrigins starts d.origins) (sym y_label) label.origins) (subst (λ (j : ℕ). StartsFrom y.label.origins j p.0.deed.origin) same p.1.1) out_starts in
        ap (λ (d : Label). within (cost_of out.parcel) d.capacity) (sym y_label) ∙ ap (λ (z : Origin). within (saturated_cost (cost (origin_of z).flat)) y.label.capacity) (sym o) ∙ p.1.0

    place : HasPlaceFor labels i out.parcel
    place = (in_labels, λ d. ap (λ (x : Label). within (cost_of out.parcel) x.capacity) (get_or_default labels i d desk.label in_labels ∙ label_is) ∙ fits)

    out_far : ticks_of out.parcel ≤ reach n seat
    out_far =
        let all = outs_seen y.label.fabric y.label.capacity [] y.notes.items led.0.legal in
        let last : ticks_of out.parcel ≤ high entry_of (number_of out.parcel) y.notes.items =
        all_last (λ (z : Token). z.tick ≤ high entry_of z.tenant y.notes.items) (outs x.notes.items) (token_of out) (subst (All (λ (z : Token). z.tick ≤ high entry_of z.tenant y.notes.items)) y_outs all) in
        let up = served_high old seat x.notes.items did.added did.view n in
        omega (arith, last, up, ap (λ (j : ℕ). high entry_of j y.notes.items) h.0, ap (high entry_of n) notes_are)

    in_starts : n < length starts
    in_starts = subst (λ (j : ℕ). j < length starts) h.0 (own_within starts out.parcel own)

    since : (d : Start) → ticks_of (get_or starts n d).transit.parcel ≤ ticks_of out.parcel
    since d =
        let s = (get_or starts n d).transit in
        let run : run_of s.parcel ≡ run_of out.parcel = subst (λ (j : ℕ). run_of (get_or starts j d).transit.parcel ≡ run_of out.parcel) h.0 (ap origin_of (own_origin starts out.parcel d own)) in
        let first : first_tick (run_of s.parcel).resume ≡ ticks_of s.parcel =
        eqb-true _ _ (subst (λ (xs : List Stay). chains (first_tick (run_of s.parcel).resume) xs (ticks_of s.parcel) ≡ true) (k.kept.starts n d in_starts).stays s.chained) in
        let on = chains_on (first_tick (run_of out.parcel).resume) out.stays.items (ticks_of out.parcel) out.chained in
        omega (arith, first, on, ap (λ (o : alone.Origin). first_tick o.resume) run)

    finding : (s : Snapshot Transit) → s.value ≡ out → IsFinding starts l.causes.items n (ticks_of out.parcel) (record { fabric = i; transit = s })
    finding s shows = record {
      number = subst (λ (z : Transit). number_of z.parcel ≡ n) (sym shows) h.0;
      ticks = ap (λ (z : Transit). ticks_of z.parcel) shows;
      own = subst (λ (z : Transit). IsOwn starts z.parcel) (sym shows) own;
      since = since;
      withdrawn = subst (λ (z : Transit). is_moved z.parcel ≡ true → z.resident ≡ true → ends_idle z.stays.items ≡ true) (sym shows) h.3.idle;
      begun = has_begun l n k.kept put_once;
    }

    pub takes_one : (v : Vec DeskSeatFacts Global) → v.items ≡ set l.firsts.items i seat → TakesOut desks n i out l (record l { firsts = v })
    takes_one v set_is = record {
      rest = refl;
      firsts = subst (AreFirsts desks) (sym set_is) (set_firsts desks l.firsts.items k.firsts i desk is lt label.fabric old seat was here);
      puts = λ f. let a = set_puts desks l.firsts.items k.firsts i desk is lt label.fabric old seat was here (λ g. 0) (λ g. let b = served_puts old.view seat.view x.notes.items did.added did.view g in omega (arith, b, ap (total g) added_puts)) f in
          omega (arith, a, ap (total (put_there f)) set_is);
      outs = λ f. let a = set_outs desks l.firsts.items k.firsts i desk is lt label.fabric old seat was here (λ g. g (token_of out)) (λ g. let b = served_outs old.view seat.view x.notes.items did.added did.view g in omega (arith, b, ap (total g) added_outs)) f in
          omega (arith, a, ap (total (found_there f)) set_is);
      reach = λ m. subst (λ (ss : List DeskSeatFacts). reach_in m l.firsts.items ≤ reach_in m ss) (sym set_is) (set_reach desks l.firsts.items k.firsts i desk is lt label.fabric old seat was here reach_more m);
      number = h.0;
      there = lt;
      place = place;
      point = one_out out _ led.1;
      withdrawn = h.3;
      far = subst (λ (ss : List DeskSeatFacts). ticks_of out.parcel ≤ reach_in n ss) (sym set_is) (let a = set_there desks l.firsts.items k.firsts i desk is lt label.fabric old seat was here n in let b = out_far in omega (arith, a, b));
      finding = finding;
    }

-- ---- how far a tenant has come

module _ (desks : List DeskFacts) (l : Ledger) (k : IsLedger desks l) (i : ℕ) (lt : i < length desks) (desk : DeskFacts) (is : desk ≡ get_or desks i desk) where
  pub desk_label : IsLabel l.loaded.value.items i desk.label
  desk_label =
      let labels = l.labels.value.items in
      let e : get_or labels i desk.label ≡ desk.label = label_at desks labels k.labels i desk desk.label lt ∙ sym (ap (λ (d : DeskFacts). d.label) is) in
      subst (λ (d : Label). IsLabel l.loaded.value.items i d) e (k.kept.labels i desk.label (let a = labels_long desks labels k.labels in omega (arith, lt, a)))

  pub desk_tenant : (n : ℕ) → n < length l.loaded.value.items → n < desk.label.tenants
  desk_tenant n h = let a = desk_label.tenants in omega (arith, h, a)

  module _ (old : DeskSeatFacts) (was : old ≡ get_or l.firsts.items i old) where
    pub first_at : IsFirst desk old
    first_at = subst (λ (d : DeskFacts). IsFirst d old) (sym is) (subst (IsFirst (get_or desks i desk)) (sym was) (k.firsts.each i desk old lt))

    module _ (seat : DeskSeatFacts) (of : IsSeatOf desk seat) (n t : ℕ) (view : seat.view ≡ after_glance old.view n t) where
      glanced_first : IsFirst desk seat
      glanced_first = (of, ap (λ (v : DeskView). v.low) view ∙ first_at.1)

      pub glanced_seeks : (v : Vec DeskSeatFacts Global) → v.items ≡ set l.firsts.items i seat → Seeks desks l (record l { firsts = v })
      glanced_seeks v set_is = record {
        rest = refl;
        firsts = subst (AreFirsts desks) (sym set_is) (set_firsts desks l.firsts.items k.firsts i desk is lt desk_label.fabric old seat was glanced_first);
        puts = λ f. let a = set_puts desks l.firsts.items k.firsts i desk is lt desk_label.fabric old seat was glanced_first (λ g. 0) (λ g. omega (arith, ap (λ (x : DeskView). total g (puts x.own)) view)) f in
            omega (arith, a, ap (total (put_there f)) set_is);
        outs = λ f. let a = set_outs desks l.firsts.items k.firsts i desk is lt desk_label.fabric old seat was glanced_first (λ g. 0) (λ g. omega (arith, ap (λ (x : DeskView). total g (outs x.own)) view)) f in
            omega (arith, a, ap (total (found_there f)) set_is);
        reach = λ m. subst (λ (ss : List DeskSeatFacts). reach_in m l.firsts.items ≤ reach_in m ss) (sym set_is) (set_reach desks l.firsts.items k.firsts i desk is lt desk_label.fabric old seat was glanced_first (glanced_reach old seat n t view) m);
      }

      pub glanced_most : (most : ℕ) → most ≤ reach_in n l.firsts.items → max most t ≤ reach_in n (set l.firsts.items i seat)
      glanced_most most h =
          let a = set_reach desks l.firsts.items k.firsts i desk is lt desk_label.fabric old seat was glanced_first (glanced_reach old seat n t view) n in
          let b = set_there desks l.firsts.items k.firsts i desk is lt desk_label.fabric old seat was glanced_first n in
          let c = glanced_far old seat n t view in
          omega (arith, h, a, b, c)
