-- What the answers to orders weigh, and what they tell of a tenant.
use Rattle.std.proofs.Common.{◌≡◌, ℕ, zero, suc, ◌+◌, ◌<◌, ◌≤◌, ◌⊎◌, inl, inr, Bool, true, false, Option, Some, None, List, [], ◌∷◌, ◌++◌, length, get_or, cond, refl, sym, ap, ap₂, ◌∙◌, subst, arith}
use Rattle.std.proofs.lemmas.Bool.{eqb-true, le-ltb}
use Rattle.std.specs.List.{AllByRecursion as ByRecursion}
use Rattle.std.specs.Prelude.{not, ◌&&◌, ◌==◌, if◌then◌else◌, nat_lt}
use Rattle.fab_core.specs.vl_design.specs.Alone.{FreeSave}
use Rattle.fab_core.specs.ten_parcel.specs.declared.parcel.Parcel.{Parcel}
use Rattle.fab_core.specs.ten_parcel.specs.declared.parcel.Parcel.TheVariants as parcel
use Rattle.fab_core.specs.ten_parcel.specs.Parcels.{free_of, number_of, ticks_of, IsParcel}
use Rattle.fab_core.specs.fab_model.specs.declared.transit.Transit.{Transit}
use Rattle.fab_core.specs.fab_model.specs.Tokens.{token_of, Token}
use Rattle.fab_orders.specs.declared.outcomes.Answer.{Answer}
use Rattle.fab_orders.specs.declared.outcomes.Cause.{Cause}
use Rattle.fab_orders.specs.declared.outcomes.Finding.{Finding}
use Rattle.fab_orders.specs.declared.outcomes.Reached.{Reached}
use Rattle.fab_orders.specs.declared.outcomes.Reached.TheVariants as reached
use Rattle.fab_orders.specs.declared.outcomes.Start.{Start}
use Rattle.fab_orders.specs.declared.outcomes.Wanted.{Wanted}
use Rattle.fab_orders.specs.declared.outcomes.Wanted.TheVariants as wanted
use Rattle.fab_orders.specs.Totals.{total}
use Rattle.fab_orders.specs.Orders.{back_at, backs_in, ended_by, ended_for, found_by, found_for, gain_by, gain_for, loss_by, loss_for, moved_at, moves_in, or_else, put_by, put_for, saves_in, saves_of, stop_in, stop_of, ticks_in, ticks_told, with_save}
use Rattle.fab_orders.specs.Outcomes.{line_of}
use Rattle.fab_rounds.specs.Ledgers.{stop_told, stopped_at, stops_told, IsFinding, IsSound}
use Rattle.fab_rounds.proofs.Conserved.{nothing, worth}
use Rattle.fab_rounds.proofs.Counted.{one}
use Rattle.fab_orders.proofs.Totals.{total-append, total_each}

-- it doesn't look at the snapshots that were made besides
abbrev pub IsBlind : (Token → ℕ) → Type 0
IsBlind f = (name : List ℕ) (x : Token) → f (with_save name x) ≡ f x

-- then a snapshot changes nothing
same_for : (f : Token → ℕ) → IsBlind f → (w : Wanted) (r : Reached) (x : Option Finding) → gain_for f w r x ≡ loss_for f w r x
same_for f b (wanted.Save name) (reached.At k) (Some x) = b name (token_of x.transit.value)
same_for f b w r x = refl

pub same_by : (f : Token → ℕ) → IsBlind f → (answers : List Answer) → total (gain_by f) answers ≡ total (loss_by f) answers
same_by f b answers = total_each (gain_by f) (loss_by f) (λ a. same_for f b a.order.value.wanted a.reached a.finding) answers

-- 1 for a token of tenant t of which v doesn't hold, 0 for any other
abbrev pub other : (Token → Bool) → ℕ → Token → ℕ
other v t x = if (x.tenant == t) && not (v x) then 1 else 0

abbrev pub such : (Token → Bool) → ℕ → Token → ℕ
such v t x = if (x.tenant == t) && v x then 1 else 0

save_weight : (w : FreeSave → ℕ) (b : Bool) (free : List FreeSave) (y : FreeSave) (n : ℕ) → cond b (total w (free ++ y ∷ []) + n) 0 ≡ cond b (total w free + n) 0 + total w (cond b (y ∷ []) [])
save_weight w true free y n = omega (arith, total-append w free (y ∷ []))
save_weight w false free y n = refl

-- where none is other, each is such
all_such : (b v : Bool) → one (b && not v) ≡ 0 → one b ≤ one (b && v)
all_such true true e = omega arith
all_such true false e = absurd (omega (arith, e))
all_such false v e = omega arith

if_and : (b v : Bool) → one (b && v) ≤ one b
if_and true true = omega arith
if_and true false = omega arith
if_and false v = omega arith

module _ (starts : List Start) (causes : List Cause) (done : List Transit) where
  -- what is told by an answer is so
  abbrev pub IsSoundAnswer : Answer → Type 0
  IsSoundAnswer a = (a.order.value.tenant < length starts) × IsSound starts causes done a.order.value.tenant a.order.value.wanted a.reached a.finding

  abbrev pub AreSound : List Answer → Type 0
  AreSound answers = ByRecursion IsSoundAnswer answers

  -- ---- who was found

  split_for : (f : Token → ℕ) → IsBlind f → (u : ℕ) (w : Wanted) (r : Reached) (x : Option Finding) → IsSound starts causes done u w r x → found_for (λ _. f) x ≡ put_for (λ _. f) w r x + ended_for f w r x
  split_for f b u (wanted.Move g) (reached.At k) (Some x) s = omega arith
  split_for f b u (wanted.Move g) (reached.Ended k) (Some x) s = omega arith
  split_for f b u wanted.Stop (reached.At k) (Some x) s = omega arith
  split_for f b u wanted.Stop (reached.Ended k) (Some x) s = omega arith
  split_for f b u (wanted.Save name) (reached.At k) (Some x) s = omega (arith, b name (token_of x.transit.value))
  split_for f b u (wanted.Save name) (reached.Ended k) (Some x) s = omega arith
  split_for f b u wanted.Watch (reached.At k) (Some x) s = absurd s
  split_for f b u wanted.Watch (reached.Ended k) (Some x) s = absurd s
  split_for f b u w r x s = omega arith

  -- whoever was found was put in line again, or had ended
  pub split_by : (f : Token → ℕ) → IsBlind f → (answers : List Answer) → AreSound answers → total (found_by (λ _. f)) answers ≡ total (put_by (λ _. f)) answers + total (ended_by f) answers
  split_by f b [] s = refl
  split_by f b (a ∷ answers) s = omega (arith, split_for f b a.order.value.tenant a.order.value.wanted a.reached a.finding s.0.1, split_by f b answers s.1)

  -- ---- who was put in line

  none_for : (f : Token → ℕ) → IsBlind f → ((u k : ℕ) (x : Finding) → IsFinding starts causes u k x → f (token_of x.transit.value) ≡ 0) → (u : ℕ) (w : Wanted) (r : Reached) (x : Option Finding) → IsSound starts causes done u w r x
      → put_for (λ _. f) w r x ≡ 0
  none_for f b z u (wanted.Move g) (reached.At k) (Some x) s = z u k x s
  none_for f b z u (wanted.Save name) (reached.At k) (Some x) s = b name (token_of x.transit.value) ∙ z u k x s
  none_for f b z u w r x s = refl

  pub none_by : (f : Token → ℕ) → IsBlind f → ((u k : ℕ) (x : Finding) → IsFinding starts causes u k x → f (token_of x.transit.value) ≡ 0) → (answers : List Answer) → AreSound answers → total (put_by (λ _. f)) answers ≡ 0
  none_by f b z [] s = refl
  none_by f b z (a ∷ answers) s = omega (arith, none_for f b z a.order.value.tenant a.order.value.wanted a.reached a.finding s.0.1, none_by f b z answers s.1)

  line_is : (t j g h u k : ℕ) (x : Finding) → IsFinding starts causes u k x → line_of t j g h (token_of x.transit.value) ≡ one ((u == t) && ((k == j) && (h == g)))
  line_is t j g h u k x s = ap₂ (λ (m n : ℕ). one ((m == t) && ((n == j) && (h == g)))) s.number s.ticks

  line_for : (t j g u : ℕ) (w : Wanted) (r : Reached) (x : Option Finding) → IsSound starts causes done u w r x → put_for (line_of t j g) w r x ≡ moves_in t j g u w r + backs_in t j g u w r x
  line_for t j g u (wanted.Move h) (reached.At k) (Some x) s = omega (arith, line_is t j g h u k x s)
  line_for t j g u (wanted.Move h) (reached.At k) None s = absurd s
  line_for t j g u (wanted.Save name) (reached.At k) (Some x) s = omega (arith, line_is t j g x.fabric u k x s)
  line_for t j g u (wanted.Save name) (reached.At k) None s = absurd s
  line_for t j g u w r x s = omega arith

  -- where tenants were put in line for orders
  pub lines_by : (t j g : ℕ) (answers : List Answer) → AreSound answers → total (put_by (line_of t j g)) answers ≡ moved_at t j g answers + back_at t j g answers
  lines_by t j g [] s = refl
  lines_by t j g (a ∷ answers) s = omega (arith, line_for t j g a.order.value.tenant a.order.value.wanted a.reached a.finding s.0.1, lines_by t j g answers s.1)

  -- ---- snapshots

  saves_for : (t : ℕ) (v : FreeSave → ℕ) (u : ℕ) (w : Wanted) (r : Reached) (x : Option Finding) → IsSound starts causes done u w r x
      → gain_for (worth t (total v) nothing) w r x ≡ loss_for (worth t (total v) nothing) w r x + total v (saves_in t u w r)
  saves_for t v u (wanted.Save name) (reached.At k) (Some x) s =
      let p = x.transit.value in
      let same = ap₂ (λ (m n : ℕ). total v (if m == t then record { name = name; tick = n } ∷ [] else [])) s.number s.ticks in
      omega (arith, same, save_weight v (number_of p.parcel == t) (free_of p.parcel) (record { name = name; tick = ticks_of p.parcel }) (total nothing p.stays.items))
  saves_for t v u (wanted.Save name) (reached.At k) None s = absurd s
  saves_for t v u w r x s = omega arith

  -- what snapshots add to a tenant's worth
  pub saves_by : (t : ℕ) (v : FreeSave → ℕ) (answers : List Answer) → AreSound answers
      → total (gain_by (worth t (total v) nothing)) answers ≡ total (loss_by (worth t (total v) nothing)) answers + total v (saves_of t answers)
  saves_by t v [] s = refl
  saves_by t v (a ∷ answers) s = omega (
    arith,
    saves_for t v a.order.value.tenant a.order.value.wanted a.reached a.finding s.0.1,
    saves_by t v answers s.1,
    total-append v (saves_in t a.order.value.tenant a.order.value.wanted a.reached) (saves_of t answers),
  )

  -- ---- stops

  stop_none_if : (t u k : ℕ) → ((j : ℕ) → 0 < total (stopped_at t j) done → ⊥) → 0 < total (stopped_at u k) done → (b : Bool) → (u == t) ≡ b → (if u == t then Some k else None) ≡ None
  stop_none_if t u k n s true e = absurd (n k (subst (λ (m : ℕ). 0 < total (stopped_at m k) done) (eqb-true u t e) s))
  stop_none_if t u k n s false e = ap (λ (b : Bool). if b then Some k else None) e

  stop_none_in : (t : ℕ) → ((j : ℕ) → 0 < total (stopped_at t j) done → ⊥) → (u : ℕ) (w : Wanted) (r : Reached) (x : Option Finding) → IsSound starts causes done u w r x → stop_in t u w r ≡ None
  stop_none_in t n u wanted.Stop (reached.At k) (Some x) s = stop_none_if t u k n s.1 (u == t) refl
  stop_none_in t n u wanted.Stop (reached.At k) None s = absurd s
  stop_none_in t n u w r x s = refl

  -- where it isn't stopped at its end, no order stopped it
  pub stop_none : (t : ℕ) → ((j : ℕ) → 0 < total (stopped_at t j) done → ⊥) → (answers : List Answer) → AreSound answers → stop_of t answers ≡ None
  stop_none t n [] s = refl
  stop_none t n (a ∷ answers) s = ap₂ or_else (stop_none_in t n a.order.value.tenant a.order.value.wanted a.reached a.finding s.0.1) (stop_none t n answers s.1)

  abbrev StopsOrNot : (t n u : ℕ) → Wanted → Reached → Type 0
  StopsOrNot t n u w r = ((stop_in t u w r ≡ None) × (stop_told t n u w r ≡ 0)) ⊎ (stop_in t u w r ≡ Some n)

  stop_some_if : (t n u k : ℕ) → ((j : ℕ) → 0 < total (stopped_at t j) done → j ≡ n) → 0 < total (stopped_at u k) done → (b : Bool) → (u == t) ≡ b → StopsOrNot t n u wanted.Stop (reached.At k)
  stop_some_if t n u k only s true e = inr (ap (λ (b : Bool). if b then Some k else None) e ∙ ap Some (only k (subst (λ (m : ℕ). 0 < total (stopped_at m k) done) (eqb-true u t e) s)))
  stop_some_if t n u k only s false e = inl (ap (λ (b : Bool). if b then Some k else None) e, ap (λ (b : Bool). one (b && (k == n))) e)

  stop_some_in : (t n : ℕ) → ((j : ℕ) → 0 < total (stopped_at t j) done → j ≡ n) → (u : ℕ) (w : Wanted) (r : Reached) (x : Option Finding) → IsSound starts causes done u w r x → StopsOrNot t n u w r
  stop_some_in t n only u wanted.Stop (reached.At k) (Some x) s = stop_some_if t n u k only s.1 (u == t) refl
  stop_some_in t n only u wanted.Stop (reached.At k) None s = absurd s
  stop_some_in t n only u w r x s = inl (refl, refl)

  -- where it is stopped at its end, it was so by an order
  pub stop_some : (t n : ℕ) → ((j : ℕ) → 0 < total (stopped_at t j) done → j ≡ n) → (answers : List Answer) → AreSound answers → 0 < stops_told t n answers → stop_of t answers ≡ Some n
  stop_some t n only [] s p = absurd (omega (arith, p))
  stop_some t n only (a ∷ answers) s p = by (stop_some_in t n only a.order.value.tenant a.order.value.wanted a.reached a.finding s.0.1) (stop_some t n only answers s.1)
    where
      by : StopsOrNot t n a.order.value.tenant a.order.value.wanted a.reached → (0 < stops_told t n answers → stop_of t answers ≡ Some n) → stop_of t (a ∷ answers) ≡ Some n
      by (inl h) next = let z = h.1 in ap (λ (o : Option ℕ). or_else o (stop_of t answers)) h.0 ∙ next (omega (arith, p, z))
      by (inr h) next = ap (λ (o : Option ℕ). or_else o (stop_of t answers)) h

  stop_such_in : (v : Token → Bool) (t n u : ℕ) (w : Wanted) (r : Reached) (x : Option Finding) → IsSound starts causes done u w r x → ended_for (other v t) w r x ≡ 0 → stop_told t n u w r ≤ ended_for (such v t) w r x
  stop_such_in v t n u wanted.Stop (reached.At k) (Some x) s z =
      let y = token_of x.transit.value in
      let a = all_such (y.tenant == t) (v y) z in
      let b = if_and (u == t) (k == n) in
      let c = ap (λ (m : ℕ). one (m == t)) s.0.number in
      omega (arith, a, b, c)
  stop_such_in v t n u wanted.Stop (reached.At k) None s z = absurd s
  stop_such_in v t n u w r x s z = omega arith

  -- where no other of its number was found so, those that were stopped are such
  pub stop_such : (v : Token → Bool) (t n : ℕ) (answers : List Answer) → AreSound answers → total (ended_by (other v t)) answers ≡ 0 → stops_told t n answers ≤ total (ended_by (such v t)) answers
  stop_such v t n [] s z = omega arith
  stop_such v t n (a ∷ answers) s z =
      let h = stop_such_in v t n a.order.value.tenant a.order.value.wanted a.reached a.finding s.0.1 (omega (arith, z)) in
      let r = stop_such v t n answers s.1 (omega (arith, z)) in
      omega (arith, h, r)

-- ---- one of them

front : {X : Type 0} (P : X → Type 0) (xs ys : List X) → ByRecursion P (xs ++ ys) → ByRecursion P xs × ByRecursion P ys
front P [] ys h = (tt, h)
front P (x ∷ xs) ys h = let r = front P xs ys h.1 in ((h.0, r.0), r.1)

-- what holds of all ticks that are told of a tenant holds of that of an answer
pub ticks_one : (P : ℕ → Type 0) (t : ℕ) (answers : List Answer) (i : ℕ) (d : Answer) → i < length answers → ByRecursion P (ticks_told t answers)
    → ByRecursion P (ticks_in t (get_or answers i d).order.value.tenant (get_or answers i d).reached)
ticks_one P t [] i d lt h = absurd (omega (arith, lt))
ticks_one P t (a ∷ answers) zero d lt h = (front P (ticks_in t a.order.value.tenant a.reached) (ticks_told t answers) h).0
ticks_one P t (a ∷ answers) (suc i) d lt h = ticks_one P t answers i d (omega (arith, lt)) (front P (ticks_in t a.order.value.tenant a.reached) (ticks_told t answers) h).1

-- where the snapshots of a tenant weigh nothing, neither does that of an answer
pub saves_one : (v : FreeSave → ℕ) (t : ℕ) (answers : List Answer) (i : ℕ) (d : Answer) → i < length answers → total v (saves_of t answers) ≡ 0
    → total v (saves_in t (get_or answers i d).order.value.tenant (get_or answers i d).order.value.wanted (get_or answers i d).reached) ≡ 0
saves_one v t [] i d lt h = absurd (omega (arith, lt))
saves_one v t (a ∷ answers) zero d lt h = omega (arith, h, total-append v (saves_in t a.order.value.tenant a.order.value.wanted a.reached) (saves_of t answers))
saves_one v t (a ∷ answers) (suc i) d lt h = saves_one v t answers i d (omega (arith, lt)) (omega (arith, h, total-append v (saves_in t a.order.value.tenant a.order.value.wanted a.reached) (saves_of t answers)))

-- ---- ticks of snapshots

-- 1 for a snapshot behind tick n
abbrev pub later : ℕ → FreeSave → ℕ
later n y = one (nat_lt n y.tick)

none_later : (n : ℕ) (free : List FreeSave) → ByRecursion (λ y. y.tick ≤ n) free → total (later n) free ≡ 0
none_later n [] h = refl
none_later n (y ∷ free) h = omega (arith, ap one (le-ltb n y.tick h.0), none_later n free h.1)

-- no snapshot was made behind where a tenant rests
pub free_early : (p : Parcel) → IsParcel p → total (later (ticks_of p)) (free_of p) ≡ 0
free_early (parcel.Rests t) h = subst (λ (n : ℕ). total (later n) (free_of (parcel.Rests t)) ≡ 0) (sym h.on.at.ticks) (none_later h.stage.state.ticks (free_of (parcel.Rests t)) h.on.free)
free_early (parcel.Over x) h = refl
