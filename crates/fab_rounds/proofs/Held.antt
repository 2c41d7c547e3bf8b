-- Where a tenant that was taken out is put in line.
use Rattle.std.proofs.Common.{◌≡◌, ℕ, ◌+◌, ◌<◌, ◌≤◌, true, List, [], ◌∷◌, ◌++◌, length, get_or, set, sym, ap, ◌∙◌, subst, arith}
use Rattle.std.specs.Prelude.{All, vec_len}
use Rattle.fab_core.specs.vl_design.specs.Costs.{saturated_cost}
use Rattle.fab_core.specs.vl_design.specs.Cost.{cost}
use Rattle.fab_core.specs.ten_core.specs.declared.origin.Origin.{Origin}
use Rattle.fab_core.specs.ten_core.specs.Tenants.{origin_of}
use Rattle.fab_core.specs.ten_parcel.specs.Parcels.{cost_of, number_of, origin_in}
use Rattle.fab_core.specs.fab_model.specs.Fabrics.{within}
use Rattle.fab_core.specs.fab_model.specs.declared.transit.Transit.{Transit}
use Rattle.fab_core.specs.fab_model.specs.Origins.{StartsFrom}
use Rattle.fab_core.specs.fab_model.specs.Tokens.{Token}
use Rattle.fab_desk.specs.fab_bay.specs.declared.noted.Label.{Label}
use Rattle.fab_rounds.specs.declared.ledgers.Ledger.{Ledger}
use Rattle.fab_orders.specs.declared.outcomes.Order.{Order}
use Rattle.fab_orders.specs.declared.outcomes.Start.{Start}
use Rattle.fab_orders.specs.declared.outcomes.Wanted.{Wanted}
use Rattle.fab_orders.specs.declared.outcomes.Wanted.TheVariants as wanted
use Rattle.fab_orders.specs.Totals.{total}
use Rattle.fab_orders.specs.Starts.{HasPlaceFor, IsLabel, IsOwn}
use Rattle.fab_orders.specs.Orders.{HasPlace, IsOrder}
use Rattle.fab_rounds.specs.Ledgers.{found_there, put_there, reach, reach_in, seat_outs, seat_puts, AreFirsts, DeskSeatFacts, DeskFacts, IsFirst}
use Rattle.fab_rounds.specs.Tries.{IsHolding}
use Rattle.fab_rounds.proofs.Lists.{own_origin, own_within}
use Rattle.fab_rounds.proofs.Looks.{desk_label}
use Rattle.fab_rounds.proofs.Puts.{label_at, labels_long, starts_from}
use Rattle.fab_rounds.proofs.Sets.{set_firsts, set_outs, set_puts, set_reach}
use Rattle.fab_rounds.proofs.Taken.{all_last}

module _ (desks : List DeskFacts) (o : Order) (g : ℕ) (t : Transit) (l : Ledger) (h : IsHolding desks o g t l) (own : IsOwn h.before.loaded.value.items t.parcel) where
  orders : h.before.orders.items ≡ l.orders.items ++ o ∷ []
  orders = sym (ap (λ (x : Ledger). x.orders.items) h.takes.rest) ∙ h.orders

  order : IsOrder h.before.labels.value.items h.before.loaded.value.items o
  order = all_last (IsOrder h.before.labels.value.items h.before.loaded.value.items) l.orders.items o (subst (All (IsOrder h.before.labels.value.items h.before.loaded.value.items)) orders h.ledger.kept.orders)

  -- there is a place where it is to move
  pub place_of_order : (j : ℕ) → o.wanted ≡ wanted.Move j → HasPlaceFor h.before.labels.value.items j t.parcel
  place_of_order j w =
      let s : Start = record { fabric = 0; transit = t } in
      let p = subst (λ (x : Wanted). HasPlace h.before.labels.value.items (get_or h.before.loaded.value.items o.tenant s) x) w (order.place s) in
      let same : origin_in (get_or h.before.loaded.value.items o.tenant s).transit.parcel ≡ origin_in t.parcel =
      subst (λ (n : ℕ). origin_in (get_or h.before.loaded.value.items n s).transit.parcel ≡ origin_in t.parcel) h.takes.number (own_origin h.before.loaded.value.items t.parcel s own) in
      (p.0, λ d. ap (λ (x : Origin). within (saturated_cost (cost (origin_of x).flat)) (get_or h.before.labels.value.items j d).capacity) (sym same) ∙ p.1 d)

  firsts_now : AreFirsts desks l.firsts.items
  firsts_now = subst (λ (x : Ledger). AreFirsts desks x.firsts.items) (sym h.rest) h.takes.firsts

  module _ (i : ℕ) (place : HasPlaceFor h.before.labels.value.items i t.parcel) where
    pub place_there : i < length desks
    place_there = let p = place.0 in let a = labels_long desks h.before.labels.value.items h.ledger.labels in omega (arith, p, a)

    pub place_first : i < vec_len l.firsts
    place_first = let p = place_there in let c = firsts_now.count in omega (arith, p, c, l.firsts.ok.0)

    module _ (desk : DeskFacts) (is : desk ≡ get_or desks i desk) where
      label_here : IsLabel h.before.loaded.value.items i desk.label
      label_here = desk_label desks h.before h.ledger i place_there desk is

      pub tenant_here : number_of t.parcel < desk.label.tenants
      tenant_here = let a = own_within h.before.loaded.value.items t.parcel own in let b = label_here.tenants in omega (arith, a, b)

      pub own_here : StartsFrom desk.label.origins (number_of t.parcel) (origin_in t.parcel)
      own_here = starts_from h.before.loaded.value.items desk.label.origins t.parcel label_here.origins own

      pub fits_here : within (cost_of t.parcel) desk.label.capacity ≡ true
      fits_here =
          let e : get_or h.before.labels.value.items i desk.label ≡ desk.label = label_at desks h.before.labels.value.items h.ledger.labels i desk desk.label place_there ∙ sym (ap (λ (d : DeskFacts). d.label) is) in
          ap (λ (x : Label). within (cost_of t.parcel) x.capacity) (sym e) ∙ place.1 desk.label

      module _ (old : DeskSeatFacts) (was : old ≡ get_or l.firsts.items i old) where
        pub first_here : IsFirst desk old
        first_here = subst (λ (d : DeskFacts). IsFirst d old) (sym is) (subst (IsFirst (get_or desks i desk)) (sym was) (firsts_now.each i desk old place_there))

        module _ (seat : DeskSeatFacts) (first : IsFirst desk seat) where
          pub after_firsts : AreFirsts desks (set l.firsts.items i seat)
          after_firsts = set_firsts desks l.firsts.items firsts_now i desk is place_there label_here.fabric old seat was first

          pub after_puts : (x : Token) → ((f : Token → ℕ) → seat_puts f seat ≡ seat_puts f old + f x) → (f : ℕ → Token → ℕ) → total (put_there f) (set l.firsts.items i seat) ≡ total (put_there f) l.firsts.items + f i x
          after_puts x p f = set_puts desks l.firsts.items firsts_now i desk is place_there label_here.fabric old seat was first (λ k. k x) p f

          pub after_outs : ((f : Token → ℕ) → seat_outs f seat ≡ seat_outs f old) → (f : ℕ → Token → ℕ) → total (found_there f) (set l.firsts.items i seat) ≡ total (found_there f) l.firsts.items
          after_outs p f = let a = set_outs desks l.firsts.items firsts_now i desk is place_there label_here.fabric old seat was first (λ k. 0) (λ k. omega (arith, p k)) f in omega (arith, a)

          pub after_reach : ((n : ℕ) → reach n old ≤ reach n seat) → (n : ℕ) → reach_in n l.firsts.items ≤ reach_in n (set l.firsts.items i seat)
          after_reach up n = set_reach desks l.firsts.items firsts_now i desk is place_there label_here.fabric old seat was first up n
