-- Each tenant whose run doesn't end where it begins has come there.
use Rattle.std.proofs.Common.{◌≡◌, ℕ, zero, suc, ◌+◌, ◌<◌, ◌≤◌, inl, inr, eqb, Bool, true, false, cond, List, [], ◌∷◌, length, get_or, refl, sym, ap, subst, arith, eq-eqb}
use mathlib.Core.Logic.{dite}
use native.Mathlib.Decide.{dec_lt}
use Rattle.std.specs.Prelude.{All, Vec, ◌&&◌}
use Rattle.std.specs.declared.alloc.Global.{Global}
use Rattle.std.specs.declared.snapshot.Snapshot.{Snapshot}
use Rattle.std.proofs.lemmas.Bool.{eqb-true}
use Rattle.std.proofs.lemmas.List.Elements.{All-head, All-tail}
use Rattle.fab_core.specs.vl_design.specs.Alone as alone
use Rattle.fab_core.specs.vl_design.specs.Alone.{Ends}
use Rattle.fab_core.specs.ten_core.specs.Tenants.{origin_of}
use Rattle.fab_core.specs.ten_parcel.specs.Parcels.{number_of, run_of, ticks_of}
use Rattle.fab_core.specs.fab_model.specs.declared.transit.Transit.{Transit}
use Rattle.fab_core.specs.fab_model.specs.Tokens.{token_of, Token}
use Rattle.fab_rounds.specs.declared.ledgers.Ledger.{Ledger}
use Rattle.fab_rounds.specs.declared.ledgers.Moving.{Moving}
use Rattle.fab_orders.specs.declared.outcomes.Answer.{Answer}
use Rattle.fab_orders.specs.declared.outcomes.Start.{Start}
use Rattle.fab_orders.specs.Totals.{total}
use Rattle.fab_orders.specs.Outcomes.{IsUnended}
use Rattle.fab_rounds.specs.Ledgers.{in_hand, moving_sum, reach_in, start_sum, stops_told, transit_sum, HasEnded, HasStoppedBy, HaveBegun, IsKept, KeepsReach}
use Rattle.fab_rounds.proofs.Lists.{own_origin}

-- where a sum isn't nothing, one of its members isn't
pub total_some : {X : Type 0} (P : X → Type 0) (f : X → ℕ) (xs : List X) → All P xs → 0 < total f xs → (x : X) × P x × (0 < f x)
total_some P f [] a l = absurd (omega (arith, l))
total_some P f (x ∷ xs) a l = dite (dec_lt 0 (f x)) (λ h. (x, All-head P x xs a, h)) (λ n. total_some P f xs (All-tail P x xs a) (omega (arith, l, n)))

pub total_least : {X : Type 0} (f : X → ℕ) (xs : List X) (i : ℕ) (d : X) → i < length xs → f (get_or xs i d) ≤ total f xs
total_least f [] i d l = absurd (omega (arith, l))
total_least f (x ∷ xs) zero d l = omega arith
total_least f (x ∷ xs) (suc i) d l = let a = total_least f xs i d (omega (arith, l)) in omega (arith, a)

-- 1 for tenant t at tick k
abbrev at : (t k : ℕ) → Token → ℕ
at t k x = cond (eqb x.tenant t && eqb x.tick k) 1 0

at_one : (a b : Bool) → a ≡ true → b ≡ true → ◌≡◌ {A = ℕ} (cond (a && b) 1 0) 1
at_one true true p q = refl
at_one true false p q = let z : ⊥ = cc in absurd z
at_one false b p q = let z : ⊥ = cc in absurd z

at_both : (a b : Bool) → 0 < cond (a && b) 1 0 → (a ≡ true) × (b ≡ true)
at_both true true l = (refl, refl)
at_both true false l = absurd (omega (arith, l))
at_both false b l = absurd (omega (arith, l))

at_is : (t k : ℕ) (x : Token) → 0 < at t k x → (x.tenant ≡ t) × (x.tick ≡ k)
at_is t k x l = let h = at_both (eqb x.tenant t) (eqb x.tick k) l in (eqb-true x.tenant t h.0, eqb-true x.tick k h.1)

-- one that has ended where it was loaded
never_over : (starts : List Start) (told : List Answer) (e : Transit) (t : ℕ) (d : Start) → told ≡ [] → HasEnded starts told e → number_of e.parcel ≡ t → ticks_of e.parcel ≡ ticks_of (get_or starts t d).transit.parcel → IsUnended (get_or starts t d).transit.parcel → ⊥
never_over starts told e t d none h number ticks unended = by h.why
  where
    run : run_of (get_or starts t d).transit.parcel ≡ run_of e.parcel
    run = subst (λ (n : ℕ). run_of (get_or starts n d).transit.parcel ≡ run_of e.parcel) number (ap origin_of (own_origin starts e.parcel d h.own))

    by : HasStoppedBy told e → ⊥
    by (inl a) = unended a.2 a.3 (subst (λ (o : alone.Origin). Ends o (ticks_of (get_or starts t d).transit.parcel) a.2 a.3) (sym run) (subst (λ (k : ℕ). Ends (run_of e.parcel) k a.2 a.3) ticks a.4))
    by (inr b) = let m = b.2 in let z : stops_told (number_of e.parcel) (ticks_of e.parcel) told ≡ 0 = ap (stops_told (number_of e.parcel) (ticks_of e.parcel)) none in omega (arith, m, z)

module _ (l l' : Ledger) (k : IsKept l) (none : l.answers.items ≡ []) (hand : (f : Token → ℕ) → in_hand f l ≡ start_sum f l.loaded.value.items)
    (there : All (λ m. ticks_of m.transit.parcel ≤ reach_in (number_of m.transit.parcel) l'.firsts.items) l.moving.items) where
  there_at : (t : ℕ) (d : Start) → t < length l.loaded.value.items → IsUnended (get_or l.loaded.value.items t d).transit.parcel → ticks_of (get_or l.loaded.value.items t d).transit.parcel ≤ reach_in t l'.firsts.items
  there_at t d lt unended =
      let s = get_or l.loaded.value.items t d in
      let n : ℕ = ticks_of s.transit.parcel in
      let number : number_of s.transit.parcel ≡ t = (k.starts t d lt).number in
      let one : at t n (token_of s.transit) ≡ 1 = at_one (eqb (number_of s.transit.parcel) t) (eqb n n) (eq-eqb (number_of s.transit.parcel) t number) (eq-eqb n n refl) in
      let least = total_least (λ (x : Start). at t n (token_of x.transit)) l.loaded.value.items t d lt in
      let some : 0 < moving_sum (at t n) l.moving.items + transit_sum (at t n) l.done.items = omega (arith, hand (at t n), least, one) in
      dite (dec_lt 0 (moving_sum (at t n) l.moving.items))
      (λ h.
      let m = total_some (λ (m : Moving). ticks_of m.transit.parcel ≤ reach_in (number_of m.transit.parcel) l'.firsts.items) (λ (m : Moving). at t n (token_of m.transit)) l.moving.items there h in
      let e = at_is t n (token_of m.0.transit) m.2 in
      subst (λ (j : ℕ). j ≤ reach_in t l'.firsts.items) e.1 (subst (λ (j : ℕ). ticks_of m.0.transit.parcel ≤ reach_in j l'.firsts.items) e.0 m.1))
      (λ z.
      let m = total_some (HasEnded l.loaded.value.items l.answers.items) (λ (e : Transit). at t n (token_of e)) l.done.items k.done (omega (arith, some, z)) in
      let e = at_is t n (token_of m.0) m.2 in
      absurd (never_over l.loaded.value.items l.answers.items m.0 t d none m.1 e.0 e.1 unended))

  pub have_begun : l'.loaded ≡ l.loaded → HaveBegun l'
  have_begun e = subst (λ (s : Snapshot (Vec Start Global)). (t : ℕ) (d : Start) → t < length s.value.items → IsUnended (get_or s.value.items t d).transit.parcel → ticks_of (get_or s.value.items t d).transit.parcel ≤ reach_in t l'.firsts.items) (sym e) there_at

-- and has later
pub begun_still : (l l' : Ledger) → HaveBegun l → l'.loaded ≡ l.loaded → KeepsReach l l' → HaveBegun l'
begun_still l l' b e more = subst (λ (s : Snapshot (Vec Start Global)). (t : ℕ) (d : Start) → t < length s.value.items → IsUnended (get_or s.value.items t d).transit.parcel → ticks_of (get_or s.value.items t d).transit.parcel ≤ reach_in t l'.firsts.items) (sym e)
    (λ t d lt u. let a = b t d lt u in let m = more t in omega (arith, a, m))
