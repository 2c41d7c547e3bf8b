-- Answers to orders.
use Rattle.std.proofs.Common.{◌≡◌, ℕ, zero, suc, ◌+◌, ◌<◌, ◌≤◌, inl, inr, eqb, Bool, true, false, cond, List, [], ◌∷◌, ◌++◌, get_or, refl, sym, ap, ◌∙◌, subst, arith, Option, Some, None, eq-eqb}
use mathlib.Core.Logic.{dite}
use native.Mathlib.Decide.{ℕ_discrete}
use Rattle.std.specs.List.{insert}
use Rattle.std.specs.Prelude.{All, Vec, ◌&&◌, if◌then◌else◌, slice_get}
use Rattle.std.specs.declared.alloc.Global.{Global}
use Rattle.std.specs.declared.snapshot.Snapshot.{Snapshot}
use Rattle.std.proofs.lemmas.Bool.{eqb-true}
use Rattle.std.proofs.lemmas.List.Elements.{All-weaker}
use Rattle.std.proofs.lemmas.Option.{none-some}
use Rattle.fab_core.specs.vl_design.specs.declared.design.End.{End}
use Rattle.fab_core.specs.vl_design.specs.declared.design.End.TheVariants.{Stopped}
use Rattle.fab_core.specs.vl_design.specs.Alone as alone
use Rattle.fab_core.specs.vl_design.specs.Alone.{first_tick, reason_at, Boundary, Ends}
use Rattle.fab_core.specs.vl_design.specs.Queue.{Queue}
use Rattle.fab_core.specs.ten_core.specs.Tenants.{origin_of}
use Rattle.fab_core.specs.ten_parcel.specs.declared.parcel.Parcel.{Parcel}
use Rattle.fab_core.specs.ten_parcel.specs.Parcels.{is_moved, is_stopped, number_of, run_of, ticks_of}
use Rattle.fab_core.specs.fab_model.specs.Points.{ended, Point}
use Rattle.fab_core.specs.Standing.{IsPointOf}
use Rattle.fab_core.proofs.Arriving.{parcel_is}
use Rattle.fab_core.specs.fab_model.specs.declared.transit.Stay.{Stay}
use Rattle.fab_core.specs.fab_model.specs.declared.transit.Transit.{Transit}
use Rattle.fab_core.specs.fab_model.specs.Ends.{EndsNotBefore}
use Rattle.fab_core.specs.fab_model.specs.Moves.{ends_idle}
use Rattle.fab_core.specs.fab_model.specs.Stays.{chains}
use Rattle.fab_core.specs.fab_model.specs.Tokens.{token_of, Token}
use Rattle.fab_desk.specs.fab_bay.specs.declared.noted.Label.{Label}
use Rattle.fab_rounds.specs.declared.ledgers.Ledger.{Ledger}
use Rattle.fab_rounds.specs.declared.ledgers.Moving.{Moving}
use Rattle.fab_orders.specs.declared.outcomes.Answer.{Answer}
use Rattle.fab_orders.specs.declared.outcomes.Cause.{Cause}
use Rattle.fab_orders.specs.declared.outcomes.Finding.{Finding}
use Rattle.fab_orders.specs.declared.outcomes.Order.{Order}
use Rattle.fab_orders.specs.declared.outcomes.Reached.{Reached}
use Rattle.fab_orders.specs.declared.outcomes.Reached.TheVariants as reached
use Rattle.fab_orders.specs.declared.outcomes.Start.{Start}
use Rattle.fab_orders.specs.declared.outcomes.Wanted.{Wanted}
use Rattle.fab_orders.specs.declared.outcomes.Wanted.TheVariants as wanted
use Rattle.fab_orders.specs.Totals.{total}
use Rattle.fab_orders.specs.Starts.{origins_of, AreStarts, IsOwn}
use Rattle.fab_orders.specs.Orders.{ended_by, ended_for, found_by, gain_by, gain_for, loss_by, loss_for, put_by, put_for, ticks_told, with_save, IsAbove}
use Rattle.fab_orders.specs.Outcomes.{GoesOn, IsUnended}
use Rattle.fab_rounds.specs.Ledgers.{all_outs, all_puts, ended_at, found_there, moving_sum, put_there, reach_in, seat_outs, seat_puts, stop_told, stopped_at, stops_told, transit_sum, AreFirsts, DeskSeatFacts, DeskFacts, HasEnded, IsFinding, IsKept, IsLedger, IsSound, KeepsBalance}
use Rattle.fab_rounds.specs.Tries.{is_watch, Answers, IsHolding, IsNext, IsStopped, IsWithin, MayTell, Tells}
use Rattle.fab_rounds.proofs.Kept.{answered_balance, answered_kept, more_ended, stops_more, within_more}
use Rattle.fab_rounds.proofs.Lists.{own_origin, own_within}
use Rattle.fab_rounds.proofs.Taken.{All-insert}
use Rattle.fab_orders.proofs.Totals.{total-append, total-insert}
use Rattle.fab_core.specs.vl_base.proofs.Booleans.{false_by as not_so}

-- ---- an answer for which a tenant was taken out

module _ (desks : List DeskFacts) (a : Answer) (g : ℕ) (t : Transit) (l : Ledger) (h : IsHolding desks a.order.value g t l) where
  firsts_is : l.firsts ≡ h.out.firsts
  firsts_is = ap (λ (x : Ledger). x.firsts) h.rest

  pub done_is : l.done ≡ h.before.done
  done_is = ap (λ (x : Ledger). x.done) h.rest ∙ ap (λ (x : Ledger). x.done) h.takes.rest

  pub answers_is : l.answers ≡ h.before.answers
  answers_is = ap (λ (x : Ledger). x.answers) h.rest ∙ ap (λ (x : Ledger). x.answers) h.takes.rest

  moving_is : l.moving ≡ h.before.moving
  moving_is = ap (λ (x : Ledger). x.moving) h.rest ∙ ap (λ (x : Ledger). x.moving) h.takes.rest

  orders_is : h.before.orders.items ≡ l.orders.items ++ a.order.value ∷ []
  orders_is = sym (ap (λ (x : Ledger). x.orders.items) h.takes.rest) ∙ h.orders

  module _ (v : Vec DeskSeatFacts Global) (d : Vec Transit Global) (told : Vec Answer Global) where
    base : record l { firsts = v; done = d; answers = told } ≡ record (h.before) { firsts = v; done = d; orders = l.orders; answers = told }
    base =
        ap (λ (x : Ledger). record x { firsts = v; done = d; answers = told }) h.rest
        ∙ ap (λ (x : Ledger). record x { firsts = v; done = d; orders = l.orders; answers = told }) h.takes.rest

    module _ (pushed : told.items ≡ l.answers.items ++ a ∷ []) (firsts : AreFirsts desks v.items)
        (caused : (f : ℕ → Token → ℕ) → total (put_there f) v.items ≡ total (put_there f) l.firsts.items + put_by f a)
        (outs : (f : ℕ → Token → ℕ) → total (found_there f) v.items ≡ total (found_there f) l.firsts.items)
        (reaches : (n : ℕ) → reach_in n l.firsts.items ≤ reach_in n v.items)
        (found : (f : ℕ → Token → ℕ) → found_by f a ≡ f g (token_of t))
        (within : IsWithin (ticks_of t.parcel) a.reached) (above : IsAbove h.before.answers.items a.order.value.tenant a.order.value.wanted a.reached)
        (more : (Token → ℕ) → ℕ) (hand : (f : Token → ℕ) → transit_sum f d.items ≡ transit_sum f l.done.items + more f) (over : (f : Token → ℕ) → ended_by f a ≤ more f)
        (dones : (f : Transit → ℕ) → total f l.done.items ≤ total f d.items) (all : All (HasEnded h.before.loaded.value.items told.items) d.items)
        (sound : IsSound h.before.loaded.value.items h.before.causes.items d.items a.order.value.tenant a.order.value.wanted a.reached a.finding)
        (even : (f : Token → ℕ) → f (token_of t) + gain_by f a ≡ put_by (λ i. f) a + more f + loss_by f a) where
      pushed_b : told.items ≡ h.before.answers.items ++ a ∷ []
      pushed_b = pushed ∙ ap (λ (x : Vec Answer Global). x.items ++ a ∷ []) answers_is

      caused_b : (f : ℕ → Token → ℕ) → total (put_there f) v.items ≡ total (put_there f) h.before.firsts.items + put_by f a
      caused_b f = let p = h.takes.puts f in omega (arith, caused f, p, ap (λ (x : Vec DeskSeatFacts Global). total (put_there f) x.items) firsts_is)

      found_b : (f : ℕ → Token → ℕ) → total (found_there f) v.items ≡ total (found_there f) h.before.firsts.items + found_by f a
      found_b f = let p = h.takes.outs f in omega (arith, outs f, p, found f, ap (λ (x : Vec DeskSeatFacts Global). total (found_there f) x.items) firsts_is)

      reach_l : (n : ℕ) → reach_in n h.before.firsts.items ≤ reach_in n l.firsts.items
      reach_l n = let p = h.takes.reach n in omega (arith, p, ap (λ (x : Vec DeskSeatFacts Global). reach_in n x.items) firsts_is)

      reach_b : (n : ℕ) → reach_in n h.before.firsts.items ≤ reach_in n v.items
      reach_b n = omega (arith, reaches n, reach_l n)

      in_reach : ticks_of t.parcel ≤ reach_in a.order.value.tenant v.items
      in_reach = let n = a.order.value.tenant in let p = h.takes.far in omega (arith, p, reaches n, ap (λ (x : Vec DeskSeatFacts Global). reach_in n x.items) firsts_is)

      hand_b : (f : Token → ℕ) → transit_sum f d.items ≡ transit_sum f h.before.done.items + more f
      hand_b f = omega (arith, hand f, ap (λ (x : Vec Transit Global). transit_sum f x.items) done_is)

      dones_b : (f : Transit → ℕ) → total f h.before.done.items ≤ total f d.items
      dones_b f = omega (arith, dones f, ap (λ (x : Vec Transit Global). total f x.items) done_is)

      kept : IsKept (record (h.before) { firsts = v; done = d; orders = l.orders; answers = told })
      kept = answered_kept h.before h.ledger.kept a.order.value a v d l.orders told orders_is refl pushed_b caused_b found_b reach_b (within_more a.reached (ticks_of t.parcel) (reach_in a.order.value.tenant v.items) in_reach within) above more hand_b over dones_b all sound

      balance : KeepsBalance h.before (record (h.before) { firsts = v; done = d; orders = l.orders; answers = told })
      balance = answered_balance h.before h.ledger.kept a.order.value a v d l.orders told orders_is refl pushed_b caused_b found_b reach_b (within_more a.reached (ticks_of t.parcel) (reach_in a.order.value.tenant v.items) in_reach within) above more hand_b over dones_b all sound
          (λ f. omega (arith, even f, found (λ i. f)))

      pub answers_with : Answers desks (λ f. f (token_of t)) l (record l { firsts = v; done = d; answers = told })
      answers_with = record {
        ledger = subst (IsLedger desks) (sym base) (record { kept = kept; labels = h.ledger.labels; firsts = firsts });
        same = (refl, refl, refl);
        moving = refl;
        balance = λ f.
            let x = balance f in
            let p : all_puts f h.out ≡ all_puts f h.before = h.takes.puts (λ i. f) in
            let q : all_outs f h.out ≡ all_outs f h.before + f (token_of t) = h.takes.outs (λ i. f) in
            omega (
              arith,
              x,
              p,
              q,
              ap (λ (z : Vec DeskSeatFacts Global). total (seat_puts f) z.items) firsts_is,
              ap (λ (z : Vec DeskSeatFacts Global). total (seat_outs f) z.items) firsts_is,
              ap (λ (z : Vec Transit Global). transit_sum f z.items) done_is,
              ap (λ (z : Vec Moving Global). moving_sum f z.items) moving_is,
              ap (λ (z : Vec Answer Global). total (gain_by f) z.items) answers_is,
              ap (λ (z : Vec Answer Global). total (loss_by f) z.items) answers_is,
            );
        reach = reaches;
      }

-- ---- one that is put in line again

-- it goes where it was told to go, or back
module _ (desks : List DeskFacts) (q : Snapshot Order) (s : Snapshot Transit) (g : ℕ) (t : Transit) (l : Ledger) (h : IsHolding desks q.value g t l) (k : ℕ) (k-is : k ≡ ticks_of t.parcel) (shows : s.value ≡ t) (v : Vec DeskSeatFacts Global) (told : Vec Answer Global)
    (pushed : told.items ≡ l.answers.items ++ record { order = q; reached = reached.At k; finding = Some (record { fabric = g; transit = s }) } ∷ []) (firsts : AreFirsts desks v.items)
    (outs : (f : ℕ → Token → ℕ) → total (found_there f) v.items ≡ total (found_there f) l.firsts.items) (reaches : (n : ℕ) → reach_in n l.firsts.items ≤ reach_in n v.items) where
  abbrev one : Answer
  one = record { order = q; reached = reached.At k; finding = Some (record { fabric = g; transit = s }) }

  found_one : IsFinding h.before.loaded.value.items h.before.causes.items q.value.tenant k (record { fabric = g; transit = s })
  found_one = subst (λ (n : ℕ). IsFinding h.before.loaded.value.items h.before.causes.items q.value.tenant n (record { fabric = g; transit = s })) (sym k-is) (h.takes.finding s shows)

  still_ended : All (HasEnded h.before.loaded.value.items told.items) l.done.items
  still_ended =
      subst (λ (x : Vec Transit Global). All (HasEnded h.before.loaded.value.items told.items) x.items) (sym (done_is desks one g t l h))
      (All-weaker (HasEnded h.before.loaded.value.items h.before.answers.items) (HasEnded h.before.loaded.value.items told.items)
      (more_ended h.before.loaded.value.items h.before.answers.items told.items (λ n j. subst (λ (x : List Answer). stops_told n j h.before.answers.items ≤ stops_told n j x) (sym (pushed ∙ ap (λ (x : Vec Answer Global). x.items ++ one ∷ []) (answers_is desks one g t l h))) (stops_more h.before.answers.items one n j)))
      h.before.done.items h.ledger.kept.done)

  -- moved to fabric j
  pub moves_so : (j : ℕ) → q.value.wanted ≡ wanted.Move j → ((f : ℕ → Token → ℕ) → total (put_there f) v.items ≡ total (put_there f) l.firsts.items + f j (token_of t)) → Answers desks (λ f. f (token_of t)) l (record l { firsts = v; answers = told })
  moves_so j w caused =
      let put : (f : ℕ → Token → ℕ) → put_by f one ≡ f j (token_of t) = λ f. ap (λ (x : Wanted). put_for f x (reached.At k) (Some (record { fabric = g; transit = s }))) w ∙ ap (λ (x : Transit). f j (token_of x)) shows in
      let gain : (f : Token → ℕ) → gain_by f one ≡ 0 = λ f. ap (λ (x : Wanted). gain_for f x (reached.At k) (Some (record { fabric = g; transit = s }))) w in
      let loss : (f : Token → ℕ) → loss_by f one ≡ 0 = λ f. ap (λ (x : Wanted). loss_for f x (reached.At k) (Some (record { fabric = g; transit = s }))) w in
      let ends : (f : Token → ℕ) → ended_by f one ≡ 0 = λ f. ap (λ (x : Wanted). ended_for f x (reached.At k) (Some (record { fabric = g; transit = s }))) w in
      answers_with desks one g t l h v l.done told pushed firsts (λ f. omega (arith, caused f, put f)) outs reaches (λ f. ap (λ (x : Transit). f g (token_of x)) shows) (omega (arith, k-is))
      (subst (λ (x : Wanted). IsAbove h.before.answers.items q.value.tenant x (reached.At k)) (sym w) tt) (λ f. 0) (λ f. omega arith) (λ f. omega (arith, ends f)) (λ f. omega arith) still_ended
      (subst (λ (x : Wanted). IsSound h.before.loaded.value.items h.before.causes.items l.done.items q.value.tenant x (reached.At k) (Some (record { fabric = g; transit = s }))) (sym w) found_one)
      (λ f. let p = put (λ i. f) in omega (arith, p, gain f, loss f))

  -- put back with a snapshot
  pub saves_so : (name : List ℕ) (t' : Transit) → q.value.wanted ≡ wanted.Save name → token_of t' ≡ with_save name (token_of t) → ((f : ℕ → Token → ℕ) → total (put_there f) v.items ≡ total (put_there f) l.firsts.items + f g (token_of t'))
      → Answers desks (λ f. f (token_of t)) l (record l { firsts = v; answers = told })
  saves_so name t' w token caused =
      let put : (f : ℕ → Token → ℕ) → put_by f one ≡ f g (token_of t') = λ f. ap (λ (x : Wanted). put_for f x (reached.At k) (Some (record { fabric = g; transit = s }))) w ∙ ap (λ (x : Transit). f g (with_save name (token_of x))) shows ∙ ap (f g) (sym token) in
      let gain : (f : Token → ℕ) → gain_by f one ≡ f (token_of t') = λ f. ap (λ (x : Wanted). gain_for f x (reached.At k) (Some (record { fabric = g; transit = s }))) w ∙ ap (λ (x : Transit). f (with_save name (token_of x))) shows ∙ ap f (sym token) in
      let loss : (f : Token → ℕ) → loss_by f one ≡ f (token_of t) = λ f. ap (λ (x : Wanted). loss_for f x (reached.At k) (Some (record { fabric = g; transit = s }))) w ∙ ap (λ (x : Transit). f (token_of x)) shows in
      let ends : (f : Token → ℕ) → ended_by f one ≡ 0 = λ f. ap (λ (x : Wanted). ended_for f x (reached.At k) (Some (record { fabric = g; transit = s }))) w in
      answers_with desks one g t l h v l.done told pushed firsts (λ f. omega (arith, caused f, put f)) outs reaches (λ f. ap (λ (x : Transit). f g (token_of x)) shows) (omega (arith, k-is))
      (subst (λ (x : Wanted). IsAbove h.before.answers.items q.value.tenant x (reached.At k)) (sym w) tt) (λ f. 0) (λ f. omega arith) (λ f. omega (arith, ends f)) (λ f. omega arith) still_ended
      (subst (λ (x : Wanted). IsSound h.before.loaded.value.items h.before.causes.items l.done.items q.value.tenant x (reached.At k) (Some (record { fabric = g; transit = s }))) (sym w) found_one)
      (λ f. let p = put (λ i. f) in omega (arith, p, gain f, loss f))

-- ---- one that has ended

-- where it has no stays, it is where it was loaded
rests_first : (starts : List Start) (labels : List Label) (t : Transit) → AreStarts labels starts → IsOwn starts t.parcel → t.stays.items ≡ [] → (d : Start) → ticks_of t.parcel ≡ ticks_of (get_or starts (number_of t.parcel) d).transit.parcel
rests_first starts labels t a own none d =
    let n = number_of t.parcel in
    let s = (get_or starts n d).transit in
    let run : run_of s.parcel ≡ run_of t.parcel = ap origin_of (own_origin starts t.parcel d own) in
    let first : first_tick (run_of s.parcel).resume ≡ ticks_of s.parcel =
    eqb-true _ _ (subst (λ (xs : List Stay). chains (first_tick (run_of s.parcel).resume) xs (ticks_of s.parcel) ≡ true) (a n d (own_within starts t.parcel own)).stays s.chained) in
    let last : first_tick (run_of t.parcel).resume ≡ ticks_of t.parcel = eqb-true _ _ (subst (λ (xs : List Stay). chains (first_tick (run_of t.parcel).resume) xs (ticks_of t.parcel) ≡ true) none t.chained) in
    sym last ∙ ap (λ (o : alone.Origin). first_tick o.resume) (sym run) ∙ first

none_or : (e : Option End) → ((x : End) → e ≡ Some x → ⊥) → e ≡ None
none_or None h = refl
none_or (Some x) h = absurd (h x refl)

-- a run that goes on where it rests, and doesn't end before that, had no reason to end
goes_on_so : (o : alone.Origin) (k : ℕ) → EndsNotBefore o k → (last : Queue) → Boundary o k last → ((q : Queue) → Boundary o k q → reason_at o.plan k q ≡ None) → (m : ℕ) (j : ℕ) (q : Queue) → j < m → j ≤ k → Boundary o j q → reason_at o.plan j q ≡ None
goes_on_so o k before last at here zero j q lt le b = absurd (omega (arith, lt))
goes_on_so o k before last at here (suc m) j q lt le b = dite (ℕ_discrete j k)
    (λ same. subst (λ (n : ℕ). (q : Queue) → Boundary o n q → reason_at o.plan n q ≡ None) (sym same) here q b)
    (λ other. none_or (reason_at o.plan j q) (λ x e.
    let i : k ≤ j = before j x q (record { at = b; why = e; first = λ i p l c. goes_on_so o k before last at here m i p (omega (arith, l, lt)) (omega (arith, l, le)) c }) in
    absurd (other (omega (arith, i, le)))))

-- what points tell of ends
abbrev pub EndLaw : Type 0
EndLaw = (q : Parcel) (p : Point) (b : Queue) → IsPointOf q p → Boundary (run_of q) (ticks_of q) b → ended p ≡ (if is_stopped q then Some Stopped else reason_at (run_of q).plan (ticks_of q) b)

abbrev pub BoundaryLaw : Type 0
BoundaryLaw = (q : Parcel) (p : Point) → IsPointOf q p → (b : Queue) × Boundary (run_of q) (ticks_of q) b × (b.state ≡ p.stage.state)

goes_on : (t : Transit) (p : Point) → IsPointOf t.parcel p → ended p ≡ None → is_stopped t.parcel ≡ false → EndLaw → BoundaryLaw → GoesOn t.parcel
goes_on t p at none lives told boundary =
    let b = boundary t.parcel p at in
    let here : (q : Queue) → Boundary (run_of t.parcel) (ticks_of t.parcel) q → reason_at (run_of t.parcel).plan (ticks_of t.parcel) q ≡ None =
    λ q c. ap (λ (x : Bool). if x then Some Stopped else reason_at (run_of t.parcel).plan (ticks_of t.parcel) q) (sym lives) ∙ sym (told t.parcel p q at c) ∙ none in
    record { last = b.0; at = b.1; none = λ j q le c. goes_on_so (run_of t.parcel) (ticks_of t.parcel) t.before_end b.0 b.1 here (suc j) j q (omega arith) le c }

one_at : (a b : Bool) → a ≡ true → b ≡ true → ◌≡◌ {A = ℕ} (cond (a && b) 1 0) 1
one_at true true p q = refl
one_at true false p q = let z : ⊥ = cc in absurd z
one_at false b p q = let z : ⊥ = cc in absurd z

one_at_three : (a b c : Bool) → a ≡ true → b ≡ true → c ≡ true → ◌≡◌ {A = ℕ} (cond (a && (b && c)) 1 0) 1
one_at_three true true true p q r = refl
one_at_three true true false p q r = let z : ⊥ = cc in absurd z
one_at_three true false c p q r = let z : ⊥ = cc in absurd z
one_at_three false b c p q r = let z : ⊥ = cc in absurd z

module _ (desks : List DeskFacts) (q : Snapshot Order) (s : Snapshot Transit) (g : ℕ) (t : Transit) (l : Ledger) (h : IsHolding desks q.value g t l) (k : ℕ) (k-is : k ≡ ticks_of t.parcel) (shows : s.value ≡ t) (r : Reached) (told : Vec Answer Global)
    (pushed : told.items ≡ l.answers.items ++ record { order = q; reached = r; finding = Some (record { fabric = g; transit = s }) } ∷ [])
    (d : Vec Transit Global) (t' : Transit) (token : token_of t' ≡ token_of t) (put : (i : ℕ) × (d.items ≡ insert l.done.items i t')) (ends : HasEnded h.before.loaded.value.items told.items t') where
  abbrev last : Answer
  last = record { order = q; reached = r; finding = Some (record { fabric = g; transit = s }) }

  number_is : number_of t.parcel ≡ q.value.tenant
  number_is = subst (λ (x : Transit). number_of x.parcel ≡ q.value.tenant) shows (h.takes.finding s shows).number

  pub found_last : IsFinding h.before.loaded.value.items h.before.causes.items q.value.tenant k (record { fabric = g; transit = s })
  found_last = subst (λ (n : ℕ). IsFinding h.before.loaded.value.items h.before.causes.items q.value.tenant n (record { fabric = g; transit = s })) (sym k-is) (h.takes.finding s shows)

  pub counted : (f : Transit → ℕ) → total f d.items ≡ total f l.done.items + f t'
  counted f = ap (total f) put.1 ∙ total-insert f l.done.items put.0 t'

  all_ended : All (HasEnded h.before.loaded.value.items told.items) d.items
  all_ended = subst (All (HasEnded h.before.loaded.value.items told.items)) (sym put.1) (All-insert (HasEnded h.before.loaded.value.items told.items) l.done.items put.0 t'
      (subst (λ (x : Vec Transit Global). All (HasEnded h.before.loaded.value.items told.items) x.items) (sym (done_is desks last g t l h))
      (All-weaker (HasEnded h.before.loaded.value.items h.before.answers.items) (HasEnded h.before.loaded.value.items told.items)
      (more_ended h.before.loaded.value.items h.before.answers.items told.items (λ n j. subst (λ (x : List Answer). stops_told n j h.before.answers.items ≤ stops_told n j x) (sym (pushed ∙ ap (λ (x : Vec Answer Global). x.items ++ last ∷ []) (answers_is desks last g t l h))) (stops_more h.before.answers.items last n j)))
      h.before.done.items h.ledger.kept.done)) ends)

  -- which it weighs
  pub ends_so : IsWithin (ticks_of t.parcel) r → IsAbove h.before.answers.items q.value.tenant q.value.wanted r → ((f : Token → ℕ) → ended_by f last ≡ f (token_of t)) → ((f : ℕ → Token → ℕ) → put_by f last ≡ 0) → ((f : Token → ℕ) → gain_by f last ≡ 0) → ((f : Token → ℕ) → loss_by f last ≡ 0)
      → IsSound h.before.loaded.value.items h.before.causes.items d.items q.value.tenant q.value.wanted r (Some (record { fabric = g; transit = s }))
      → AreFirsts desks l.firsts.items → Answers desks (λ f. f (token_of t)) l (record l { done = d; answers = told })
  ends_so within above over puts gain loss sound firsts = answers_with desks last g t l h l.firsts d told pushed firsts (λ f. omega (arith, puts f)) (λ f. refl) (λ n. omega arith) (λ f. ap (λ (x : Transit). f g (token_of x)) shows) within above (λ f. f (token_of t))
      (λ f. omega (arith, counted (λ (x : Transit). f (token_of x)), ap f token)) (λ f. omega (arith, over f)) (λ f. omega (arith, counted f)) all_ended sound (λ f. let p = puts (λ i. f) in omega (arith, p, gain f, loss f))

-- ---- an answer for which nobody was taken out

put_none : (f : ℕ → Token → ℕ) (w : Wanted) (r : Reached) → put_for f w r None ≡ 0
put_none f (wanted.Move g) (reached.At k) = refl
put_none f (wanted.Move g) (reached.Ended k) = refl
put_none f (wanted.Save name) (reached.At k) = refl
put_none f (wanted.Save name) (reached.Ended k) = refl
put_none f wanted.Stop r = refl
put_none f wanted.Watch r = refl

gain_none : (f : Token → ℕ) (w : Wanted) (r : Reached) → gain_for f w r None ≡ 0
gain_none f (wanted.Move g) r = refl
gain_none f (wanted.Save name) (reached.At k) = refl
gain_none f (wanted.Save name) (reached.Ended k) = refl
gain_none f wanted.Stop r = refl
gain_none f wanted.Watch r = refl

loss_none : (f : Token → ℕ) (w : Wanted) (r : Reached) → loss_for f w r None ≡ 0
loss_none f (wanted.Move g) r = refl
loss_none f (wanted.Save name) (reached.At k) = refl
loss_none f (wanted.Save name) (reached.Ended k) = refl
loss_none f wanted.Stop r = refl
loss_none f wanted.Watch r = refl

ended_none : (f : Token → ℕ) (w : Wanted) (r : Reached) → ended_for f w r None ≡ 0
ended_none f (wanted.Move g) (reached.At k) = refl
ended_none f (wanted.Move g) (reached.Ended k) = refl
ended_none f (wanted.Save name) (reached.At k) = refl
ended_none f (wanted.Save name) (reached.Ended k) = refl
ended_none f wanted.Stop (reached.At k) = refl
ended_none f wanted.Stop (reached.Ended k) = refl
ended_none f wanted.Watch (reached.At k) = refl
ended_none f wanted.Watch (reached.Ended k) = refl

module _ (l : Ledger) (k : IsKept l) (r : Reached) (m : MayTell r l) (o : Order) (os : Vec Order Global) (q : Snapshot Order) (asks : q.value ≡ o) (told : Vec Answer Global) (popped : l.orders.items ≡ os.items ++ o ∷ [])
    (pushed : told.items ≡ l.answers.items ++ record { order = q; reached = r; finding = None } ∷ []) where
  abbrev plain : Answer
  plain = record { order = q; reached = r; finding = None }

  puts_none : (f : ℕ → Token → ℕ) → put_by f plain ≡ 0
  puts_none f = put_none f q.value.wanted r

  caused_same : (f : ℕ → Token → ℕ) → total (put_there f) l.firsts.items ≡ total (put_there f) l.firsts.items + put_by f plain
  caused_same f = omega (arith, puts_none f)

  found_same : (f : ℕ → Token → ℕ) → total (found_there f) l.firsts.items ≡ total (found_there f) l.firsts.items + found_by f plain
  found_same f = omega arith

  over_none : (f : Token → ℕ) → ended_by f plain ≤ 0
  over_none f = omega (arith, ended_none f q.value.wanted r)

  all_still : All (HasEnded l.loaded.value.items told.items) l.done.items
  all_still = All-weaker (HasEnded l.loaded.value.items l.answers.items) (HasEnded l.loaded.value.items told.items)
      (more_ended l.loaded.value.items l.answers.items told.items (λ n j. subst (λ (x : List Answer). stops_told n j l.answers.items ≤ stops_told n j x) (sym pushed) (stops_more l.answers.items plain n j))) l.done.items k.done

  pub tells_so : Tells l (record l { orders = os; answers = told })
  tells_so = record {
    kept = answered_kept l k o plain l.firsts l.done os told popped asks pushed caused_same found_same (λ n. omega arith) (m.far os.items o popped) (m.above os.items o popped) (λ f. 0) (λ f. omega arith) over_none (λ f. omega arith) all_still (m.sound os.items o popped);
    same = (refl, refl, refl);
    firsts = refl;
    moving = refl;
    done = refl;
    balance = answered_balance l k o plain l.firsts l.done os told popped asks pushed caused_same found_same (λ n. omega arith) (m.far os.items o popped) (m.above os.items o popped) (λ f. 0) (λ f. omega arith) over_none (λ f. omega arith) all_still (m.sound os.items o popped)
        (λ f. let p = puts_none (λ i. f) in omega (arith, p, gain_none f q.value.wanted r, loss_none f q.value.wanted r));
    fewer = (o, popped);
  }

-- what may be told: where it has ended
ended_sound : (starts : List Start) (causes : List Cause) (done : List Transit) (t k : ℕ) (w : Wanted) → is_watch w ≡ false → 0 < total (ended_at t k) done → IsSound starts causes done t w (reached.Ended k) None
ended_sound starts causes done t k (wanted.Move g) n l = (tt, l)
ended_sound starts causes done t k wanted.Stop n l = (tt, l)
ended_sound starts causes done t k (wanted.Save name) n l = (tt, l)
ended_sound starts causes done t k wanted.Watch n l = let z : ⊥ = cc in absurd z

ended_above : (told : List Answer) (t k : ℕ) (w : Wanted) → is_watch w ≡ false → IsAbove told t w (reached.Ended k)
ended_above told t k (wanted.Move g) n = tt
ended_above told t k wanted.Stop n = tt
ended_above told t k (wanted.Save name) n = tt
ended_above told t k wanted.Watch n = let z : ⊥ = cc in absurd z

pub may_tell_ended : (l : Ledger) (t k : ℕ) → IsNext t false l.orders.items → 0 < total (ended_at t k) l.done.items → MayTell (reached.Ended k) l
may_tell_ended l t k n some = record {
  some = n.some;
  sound = λ front o e. let x = n.each front o e in subst (λ (j : ℕ). IsSound l.loaded.value.items l.causes.items l.done.items j o.wanted (reached.Ended k) None) (sym x.0) (ended_sound l.loaded.value.items l.causes.items l.done.items t k o.wanted x.1 some);
  far = λ front o e. tt;
  above = λ front o e. let x = n.each front o e in ended_above l.answers.items o.tenant k o.wanted x.1;
}

-- and by how far it has come
watch_is : (w : Wanted) → is_watch w ≡ true → w ≡ wanted.Watch
watch_is (wanted.Move g) e = let z : ⊥ = cc in absurd z
watch_is wanted.Stop e = let z : ⊥ = cc in absurd z
watch_is (wanted.Save name) e = let z : ⊥ = cc in absurd z
watch_is wanted.Watch e = refl

pub may_tell_far : (l : Ledger) (t k : ℕ) → IsKept l → IsNext t true l.orders.items → ((d : Start) → IsUnended (get_or l.loaded.value.items t d).transit.parcel → ticks_of (get_or l.loaded.value.items t d).transit.parcel ≤ k) → All (λ j. j ≤ k) (ticks_told t l.answers.items) → k ≤ reach_in t l.firsts.items
    → MayTell (reached.At k) l
may_tell_far l t k its n begun above within = record {
  some = n.some;
  sound = λ front o e. let x = n.each front o e in
      subst (λ (w : Wanted). IsSound l.loaded.value.items l.causes.items l.done.items o.tenant w (reached.At k) None) (sym (watch_is o.wanted x.1))
      (subst (λ (j : ℕ). IsSound l.loaded.value.items l.causes.items l.done.items j wanted.Watch (reached.At k) None) (sym x.0) begun);
  far = λ front o e. let x = n.each front o e in subst (λ (j : ℕ). k ≤ reach_in j l.firsts.items) (sym x.0) within;
  above = λ front o e. let x = n.each front o e in
      subst (λ (w : Wanted). IsAbove l.answers.items o.tenant w (reached.At k)) (sym (watch_is o.wanted x.1)) (subst (λ (j : ℕ). All (λ i. i ≤ k) (ticks_told j l.answers.items)) (sym x.0) above);
}

-- ---- an answer for one that has ended

put_ended : (f : ℕ → Token → ℕ) (w : Wanted) (k : ℕ) (x : Finding) → put_for f w (reached.Ended k) (Some x) ≡ 0
put_ended f (wanted.Move g) k x = refl
put_ended f wanted.Stop k x = refl
put_ended f (wanted.Save name) k x = refl
put_ended f wanted.Watch k x = refl

gain_ended : (f : Token → ℕ) (w : Wanted) (k : ℕ) (x : Finding) → gain_for f w (reached.Ended k) (Some x) ≡ 0
gain_ended f (wanted.Move g) k x = refl
gain_ended f wanted.Stop k x = refl
gain_ended f (wanted.Save name) k x = refl
gain_ended f wanted.Watch k x = refl

loss_ended : (f : Token → ℕ) (w : Wanted) (k : ℕ) (x : Finding) → loss_for f w (reached.Ended k) (Some x) ≡ 0
loss_ended f (wanted.Move g) k x = refl
loss_ended f wanted.Stop k x = refl
loss_ended f (wanted.Save name) k x = refl
loss_ended f wanted.Watch k x = refl

over_ended : (f : Token → ℕ) (w : Wanted) (k : ℕ) (x : Finding) → ended_for f w (reached.Ended k) (Some x) ≡ f (token_of x.transit.value)
over_ended f (wanted.Move g) k x = refl
over_ended f wanted.Stop k x = refl
over_ended f (wanted.Save name) k x = refl
over_ended f wanted.Watch k x = refl

found_sound : (starts : List Start) (causes : List Cause) (done : List Transit) (t k : ℕ) (w : Wanted) (x : Finding) → is_watch w ≡ false → IsFinding starts causes t k x → 0 < total (ended_at t k) done → IsSound starts causes done t w (reached.Ended k) (Some x)
found_sound starts causes done t k (wanted.Move g) x n f l = (f, l)
found_sound starts causes done t k wanted.Stop x n f l = (f, l)
found_sound starts causes done t k (wanted.Save name) x n f l = (f, l)
found_sound starts causes done t k wanted.Watch x n f l = let z : ⊥ = cc in absurd z

-- it is the same run, and rests there
still_on : (t t' : Transit) → token_of t' ≡ token_of t → GoesOn t.parcel → GoesOn t'.parcel
still_on t t' token g =
    let run : run_of t'.parcel ≡ run_of t.parcel = ap (λ (x : Token). origin_of x.deed.origin) token in
    let ticks : ticks_of t'.parcel ≡ ticks_of t.parcel = ap (λ (x : Token). x.tick) token in
    record {
      last = g.last;
      at = subst (λ (o : alone.Origin). Boundary o (ticks_of t'.parcel) g.last) (sym run) (subst (λ (j : ℕ). Boundary (run_of t.parcel) j g.last) (sym ticks) g.at);
      none = λ j q le b. subst (λ (o : alone.Origin). reason_at o.plan j q ≡ None) (sym run) (g.none j q (omega (arith, le, ticks)) (subst (λ (o : alone.Origin). Boundary o j q) run b));
    }

module _ (desks : List DeskFacts) (q : Snapshot Order) (s : Snapshot Transit) (g : ℕ) (t : Transit) (l : Ledger) (h : IsHolding desks q.value g t l) (k : ℕ) (k-is : k ≡ ticks_of t.parcel) (shows : s.value ≡ t) (told : Vec Answer Global)
    (d : Vec Transit Global) (p : Point) (at : IsPointOf t.parcel p) (law : EndLaw) where
  here : IsFinding h.before.loaded.value.items h.before.causes.items q.value.tenant (ticks_of t.parcel) (record { fabric = g; transit = s })
  here = h.takes.finding s shows

  number_here : number_of t.parcel ≡ q.value.tenant
  number_here = subst (λ (x : Transit). number_of x.parcel ≡ q.value.tenant) shows here.number

  own_here : IsOwn h.before.loaded.value.items t.parcel
  own_here = subst (λ (x : Transit). IsOwn h.before.loaded.value.items x.parcel) shows here.own

  firsts_here : AreFirsts desks l.firsts.items
  firsts_here = subst (λ (x : Ledger). AreFirsts desks x.firsts.items) (sym h.rest) h.takes.firsts

  -- as it came out
  module _ (pushed : told.items ≡ l.answers.items ++ record { order = q; reached = reached.Ended k; finding = Some (record { fabric = g; transit = s }) } ∷ []) (watch : is_watch q.value.wanted ≡ false) (put : (i : ℕ) × (d.items ≡ insert l.done.items i t))
      (end : End) (last : Queue) (ends : Ends (run_of t.parcel) (ticks_of t.parcel) end last) where
    unmoved : is_moved t.parcel ≡ false
    unmoved = not_so (is_moved t.parcel) (λ m. none-some end (sym (h.takes.withdrawn.lively m p at) ∙ law t.parcel p last at ends.at
        ∙ ap (λ (x : Bool). if x then Some Stopped else reason_at (run_of t.parcel).plan (ticks_of t.parcel) last) h.takes.withdrawn.lives ∙ ends.why))

    over_so : HasEnded h.before.loaded.value.items told.items t
    over_so = record {
      parcel = parcel_is t.parcel p at;
      own = own_here;
      first = rests_first h.before.loaded.value.items h.before.labels.value.items t h.ledger.kept.starts own_here;
      withdrawn = h.takes.withdrawn.idle;
      why = inl (h.takes.withdrawn.lives, unmoved, end, last, ends);
    }

    pub over_answers : Answers desks (λ f. f (token_of t)) l (record l { done = d; answers = told })
    over_answers = ends_so desks q s g t l h k k-is shows (reached.Ended k) told pushed d t refl put over_so tt (ended_above h.before.answers.items q.value.tenant k q.value.wanted watch)
        (λ f. over_ended f q.value.wanted k (record { fabric = g; transit = s }) ∙ ap (λ (x : Transit). f (token_of x)) shows) (λ f. put_ended f q.value.wanted k (record { fabric = g; transit = s }))
        (λ f. gain_ended f q.value.wanted k (record { fabric = g; transit = s })) (λ f. loss_ended f q.value.wanted k (record { fabric = g; transit = s }))
        (found_sound h.before.loaded.value.items h.before.causes.items d.items q.value.tenant k q.value.wanted (record { fabric = g; transit = s }) watch
        (found_last desks q s g t l h k k-is shows (reached.Ended k) told pushed d t refl put over_so)
        (let c = counted desks q s g t l h k k-is shows (reached.Ended k) told pushed d t refl put over_so (ended_at q.value.tenant k) in
        let o = one_at (eqb (number_of t.parcel) q.value.tenant) (eqb (ticks_of t.parcel) k) (eq-eqb (number_of t.parcel) q.value.tenant number_here) (eq-eqb (ticks_of t.parcel) k (sym k-is)) in
        omega (arith, c, o)))
        firsts_here

  -- stopped
  module _ (pushed : told.items ≡ l.answers.items ++ record { order = q; reached = reached.At k; finding = Some (record { fabric = g; transit = s }) } ∷ []) (w : q.value.wanted ≡ wanted.Stop) (t' : Transit) (st : IsStopped t t') (put : (i : ℕ) × (d.items ≡ insert l.done.items i t'))
      (none : ended p ≡ None) (boundary : BoundaryLaw) where
    number_same : number_of t'.parcel ≡ number_of t.parcel
    number_same = ap (λ (x : Token). x.tenant) st.token

    ticks_same : ticks_of t'.parcel ≡ ticks_of t.parcel
    ticks_same = ap (λ (x : Token). x.tick) st.token

    own_same : IsOwn h.before.loaded.value.items t'.parcel
    own_same = ap (slice_get (origins_of h.before.loaded.value.items)) number_same ∙ own_here ∙ ap Some (ap (λ (x : Token). x.deed.origin) (sym st.token))

    stops : 0 < stops_told (number_of t'.parcel) (ticks_of t'.parcel) told.items
    stops =
        let n = number_of t'.parcel in
        let j = ticks_of t'.parcel in
        let a : Answer = record { order = q; reached = reached.At k; finding = Some (record { fabric = g; transit = s }) } in
        let o = one_at (eqb q.value.tenant n) (eqb k j) (eq-eqb q.value.tenant n (sym (number_same ∙ number_here))) (eq-eqb k j (k-is ∙ sym ticks_same)) in
        let c : stop_told n j q.value.tenant q.value.wanted (reached.At k) ≡ 1 = ap (λ (x : Wanted). stop_told n j q.value.tenant x (reached.At k)) w ∙ o in
        omega (arith, ap (stops_told n j) pushed, total-append (λ (x : Answer). stop_told n j x.order.value.tenant x.order.value.wanted x.reached) l.answers.items (a ∷ []), c)

    stop_so : HasEnded h.before.loaded.value.items told.items t'
    stop_so = record {
      parcel = st.parcel;
      own = own_same;
      first = rests_first h.before.loaded.value.items h.before.labels.value.items t' h.ledger.kept.starts own_same;
      withdrawn = λ m r. ap (λ (x : Token). ends_idle x.deed.stays) st.token ∙ h.takes.withdrawn.idle (ap (λ (x : Token). x.deed.moved) (sym st.token) ∙ m) (ap (λ (x : Token). x.deed.resident) (sym st.token) ∙ r);
      why = inr (st.stopped, still_on t t' st.token (goes_on t p at none h.takes.withdrawn.lives law boundary), stops);
    }

    pub stop_answers : Answers desks (λ f. f (token_of t)) l (record l { done = d; answers = told })
    stop_answers =
        let x : Finding = record { fabric = g; transit = s } in
        ends_so desks q s g t l h k k-is shows (reached.At k) told pushed d t' st.token put stop_so (omega (arith, k-is)) (subst (λ (y : Wanted). IsAbove h.before.answers.items q.value.tenant y (reached.At k)) (sym w) tt)
        (λ f. ap (λ (y : Wanted). ended_for f y (reached.At k) (Some (record { fabric = g; transit = s }))) w ∙ ap (λ (y : Transit). f (token_of y)) shows)
        (λ f. ap (λ (y : Wanted). put_for f y (reached.At k) (Some (record { fabric = g; transit = s }))) w)
        (λ f. ap (λ (y : Wanted). gain_for f y (reached.At k) (Some (record { fabric = g; transit = s }))) w)
        (λ f. ap (λ (y : Wanted). loss_for f y (reached.At k) (Some (record { fabric = g; transit = s }))) w)
        (subst (λ (y : Wanted). IsSound h.before.loaded.value.items h.before.causes.items d.items q.value.tenant y (reached.At k) (Some (record { fabric = g; transit = s }))) (sym w) (
          found_last desks q s g t l h k k-is shows (reached.At k) told pushed d t' st.token put stop_so,
          let c = counted desks q s g t l h k k-is shows (reached.At k) told pushed d t' st.token put stop_so (stopped_at q.value.tenant k) in
              let o = one_at_three (eqb (number_of t'.parcel) q.value.tenant) (eqb (ticks_of t'.parcel) k) (is_stopped t'.parcel) (eq-eqb (number_of t'.parcel) q.value.tenant (number_same ∙ number_here)) (eq-eqb (ticks_of t'.parcel) k (ticks_same ∙ sym k-is)) st.stopped in
              omega (arith, c, o),
        ))
        firsts_here

-- whose it is
pub own_held : (desks : List DeskFacts) (o : Order) (g : ℕ) (t : Transit) (l : Ledger) (h : IsHolding desks o g t l) (s : Snapshot Transit) → s.value ≡ t → IsOwn h.before.loaded.value.items t.parcel
own_held desks o g t l h s shows = subst (λ (x : Transit). IsOwn h.before.loaded.value.items x.parcel) shows (h.takes.finding s shows).own
