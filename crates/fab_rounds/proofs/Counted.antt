-- How often a tenant is put in line: by the causes, and by who is behind a move.
use Rattle.std.proofs.Common.{◌≡◌, ℕ, ◌+◌, ◌<◌, ◌≤◌, ◌⊎◌, inl, inr, Bool, true, false, Option, Some, None, List, [], ◌∷◌, length, get_or, cond, eqb, refl, sym, ap, ap₂, ◌∙◌, subst, arith, eq-eqb}
use Rattle.std.proofs.lemmas.Bool.{cases_lt, eqb-true, false≢true, le-leb, le-ltb, lt-leb, lt-ltb}
use Rattle.std.proofs.lemmas.Option.{get_or_from_slice_get}
use Rattle.std.specs.List.{AllByRecursion as ByRecursion}
use Rattle.std.specs.Prelude.{not, ◌&&◌, ◌||◌, ◌==◌, if◌then◌else◌, is_some, nat_le, nat_lt, All}
use Rattle.fab_core.specs.vl_design.specs.declared.capacity.Cost.{Cost}
use Rattle.fab_core.specs.ten_core.specs.declared.origin.Origin.{Origin}
use Rattle.fab_core.specs.ten_core.specs.Tenants.{origin_of}
use Rattle.fab_core.specs.ten_parcel.specs.declared.parcel.Parcel.{Parcel}
use Rattle.fab_core.specs.ten_parcel.specs.Parcels.{is_moved, number_of, origin_in, run_of, ticks_of}
use Rattle.fab_core.specs.ten_plan.specs.Plans.{move_at}
use Rattle.fab_core.specs.fab_model.specs.declared.transit.Stay.{Stay}
use Rattle.fab_core.specs.fab_model.specs.declared.transit.Transit.{Transit}
use Rattle.fab_core.specs.fab_model.specs.declared.note.Note.{Note}
use Rattle.fab_core.specs.fab_model.specs.Deeds.{run_in}
use Rattle.fab_core.specs.fab_model.specs.Histories.{after, next, of_tenant, place_of, replay, Away, Inside, IsLegalFrom, Place, Seat}
use Rattle.fab_core.specs.fab_model.specs.Moves as moves
use Rattle.fab_core.specs.fab_model.specs.Moves.{ends_idle, left_for, passed, HaveMoveAt}
use Rattle.fab_core.specs.fab_model.specs.Tokens.{outs, puts, token_of, Token}
use Rattle.fab_core.specs.fab_model.proofs.Legality.{place_here, place_other}
use Rattle.fab_core.specs.fab_model.proofs.Passing.{moves_told}
use Rattle.fab_desk.specs.fab_bay.specs.declared.noted.Label.{Label}
use Rattle.fab_desk.specs.fab_bay.specs.declared.noted.NotedCore.{NotedCore}
use Rattle.fab_orders.specs.declared.outcomes.Cause.{Cause}
use Rattle.fab_orders.specs.declared.outcomes.Reason.{Reason}
use Rattle.fab_orders.specs.declared.outcomes.Reason.TheVariants.{First, Errand}
use Rattle.fab_orders.specs.declared.outcomes.Start.{Start}
use Rattle.fab_orders.specs.Totals.{total}
use Rattle.fab_orders.specs.Starts.{AreStarts, IsOwn, IsStart}
use Rattle.fab_orders.specs.Outcomes.{cause_of, goes_to, line_of, IsCause, IsReason, IsUnended}
use Rattle.fab_rounds.specs.Ledgers.{errand_of, errands_of}
use Rattle.fab_rounds.proofs.Conserved.{each, finally, held, nothing, outs_in, puts_in, still, IsOneClosed}
use Rattle.fab_rounds.proofs.Lists.{own_origin, start_of}
use Rattle.fab_orders.proofs.Totals.{total_all, total_split}
use Rattle.fab_core.specs.vl_base.proofs.Booleans.{from_true_false as no}

-- ---- yes and no

-- 1 for yes
abbrev pub one : Bool → ℕ
one b = if b then 1 else 0

off : (b v : Bool) → b ≡ false → one (b && v) ≡ 0
off true v e = no e
off false v e = refl

-- a flag that is off, behind one or two others
off_second : (b m v : Bool) → m ≡ true → one (b && (not m && v)) ≡ 0
off_second true true v e = refl
off_second true false v e = no (sym e)
off_second false m v e = refl

off_third : (b at m v : Bool) → m ≡ false → one (b && (at && (m && v))) ≡ 0
off_third true true true v e = no e
off_third true true false v e = refl
off_third true false m v e = refl
off_third false at m v e = refl

on_flags : (b at m r i : Bool) → b ≡ true → m ≡ true → r ≡ true → i ≡ false → one (b && (at && (m && (r && not i)))) ≡ one at
on_flags true true true true false eb em er ei = refl
on_flags true false true true false eb em er ei = refl
on_flags true at true true true eb em er ei = no ei
on_flags true at true false i eb em er ei = no (sym er)
on_flags true at false r i eb em er ei = no (sym em)
on_flags false at m r i eb em er ei = no (sym eb)

zeros : (p q : Bool) (x y z : ℕ) → x ≡ 0 → y ≡ 0 → z ≡ 0 → x ≡ cond p y 0 + cond q z 0
zeros true true x y z ex ey ez = omega arith
zeros true false x y z ex ey ez = omega arith
zeros false true x y z ex ey ez = omega arith
zeros false false x y z ex ey ez = omega arith

by_first : (p q : Bool) (x y z : ℕ) → x ≡ one p → y ≡ 1 → z ≡ 0 → x ≡ cond p y 0 + cond q z 0
by_first true true x y z ex ey ez = omega arith
by_first true false x y z ex ey ez = omega arith
by_first false true x y z ex ey ez = omega arith
by_first false false x y z ex ey ez = omega arith

by_second : (p q : Bool) (x y z : ℕ) → x ≡ one q → y ≡ 0 → z ≡ 1 → x ≡ cond p y 0 + cond q z 0
by_second true true x y z ex ey ez = omega arith
by_second true false x y z ex ey ez = omega arith
by_second false true x y z ex ey ez = omega arith
by_second false false x y z ex ey ez = omega arith

by_errand : (p q at to : Bool) (x y z : ℕ) → x ≡ one (at && to) → y ≡ 0 → z ≡ one at → (at ≡ true → q ≡ to) → x ≡ cond p y 0 + cond q z 0
by_errand p q true to x y z ex ey ez eq = by_second p q x y z (ex ∙ ap one (sym (eq refl))) ey ez
by_errand p q false to x y z ex ey ez eq = zeros p q x y z ex ey ez

-- ---- weights

abbrev pub is_nil : List Stay → Bool
is_nil [] = true
is_nil (x ∷ xs) = false

pub nil_of : (xs : List Stay) → is_nil xs ≡ true → xs ≡ []
nil_of [] e = refl
nil_of (x ∷ xs) e = no (sym e)

-- 1 for a token of tenant t that doesn't move and has no stays, 0 for any other
abbrev pub fresh : ℕ → Token → ℕ
fresh t x = if (x.tenant == t) && (not x.deed.moved && is_nil x.deed.stays) then 1 else 0

-- 1 for a token of tenant t in whose plan no move stands at tick j, 0 for any other
abbrev pub moveless : (t j : ℕ) → Token → ℕ
moveless t j x = if (x.tenant == t) && not (is_some (move_at j (run_in x.deed).plan.errands)) then 1 else 0

-- ---- causes

pub goes_some : (g : ℕ) (o : Option ℕ) → goes_to g o ≡ true → is_some o ≡ true
goes_some g None e = no (sym e)
goes_some g (Some h) e = refl

module _ (starts : List Start) (labels : List Label) (a : AreStarts labels starts) (t : ℕ) (s : Start) (lt : t < length starts) (is : get_or starts t s ≡ s) where
  start_at : IsStart labels t s
  start_at = subst (IsStart labels t) is (a t s lt)

  origin_at : (p : Parcel) → IsOwn starts p → number_of p ≡ t → origin_in s.transit.parcel ≡ origin_in p
  origin_at p o n = ap (λ (y : Start). origin_in y.transit.parcel) (sym is ∙ ap (λ (k : ℕ). get_or starts k s) (sym n)) ∙ own_origin starts p s o

  cause_own : (r : Reason) (h : ℕ) (x : Transit) → IsReason starts r h x → IsOwn starts x.parcel
  cause_own First h x e = start_of starts (record { fabric = h; transit = x }) (number_of x.parcel) e.0
  cause_own Errand h x e = e.own

  first_is : (h : ℕ) (x : Transit) → IsReason starts First h x → number_of x.parcel ≡ t → ◌≡◌ {A = Start} (record { fabric = h; transit = x }) s
  first_is h x e n =
      let y : Start = record { fabric = h; transit = x } in
      sym (get_or_from_slice_get starts (number_of x.parcel) y s e.0) ∙ ap (λ (k : ℕ). get_or starts k s) n ∙ is

  module _ (j g : ℕ) where
    abbrev pub fits : Bool
    fits = (ticks_of s.transit.parcel == j) && (s.fabric == g)

    abbrev pub goes : Bool
    goes = goes_to g (move_at j (run_of s.transit.parcel).plan.errands)

    -- a cause of it is one where it begins, or for a move
    weighs : (r : Reason) (h : ℕ) (x : Transit) → IsReason starts r h x → (b : Bool) → (number_of x.parcel == t) ≡ b
        → line_of t j g h (token_of x) ≡ cond fits (fresh t (token_of x)) 0 + cond goes (left_for t j (token_of x)) 0
    weighs r h x e false n =
        zeros fits goes (line_of t j g h (token_of x)) (fresh t (token_of x)) (left_for t j (token_of x))
        (off (number_of x.parcel == t) ((ticks_of x.parcel == j) && (h == g)) n)
        (off (number_of x.parcel == t) (not (is_moved x.parcel) && is_nil x.stays.items) n)
        (off (number_of x.parcel == t) ((ticks_of x.parcel == j) && (is_moved x.parcel && (x.resident && not (ends_idle x.stays.items)))) n)
    weighs First h x e true n =
        let y = first_is h x e (eqb-true (number_of x.parcel) t n) in
        let k = start_at in
        let moved = ap (λ (v : Start). is_moved v.transit.parcel) y ∙ k.moved in
        let stays = ap (λ (v : Start). v.transit.stays.items) y ∙ k.stays in
        by_first fits goes (line_of t j g h (token_of x)) (fresh t (token_of x)) (left_for t j (token_of x))
        (ap₂ (λ (b u : Bool). one (b && u)) n (ap (λ (v : Start). (ticks_of v.transit.parcel == j) && (v.fabric == g)) y))
        (ap₂ (λ (b u : Bool). one (b && u)) n (ap₂ (λ (m : Bool) (l : List Stay). not m && is_nil l) moved stays))
        (off_third (number_of x.parcel == t) (ticks_of x.parcel == j) (is_moved x.parcel) (x.resident && not (ends_idle x.stays.items)) moved)
    weighs Errand h x e true n =
        by_errand fits goes (ticks_of x.parcel == j) (h == g) (line_of t j g h (token_of x)) (fresh t (token_of x)) (left_for t j (token_of x))
        (ap (λ (b : Bool). one (b && ((ticks_of x.parcel == j) && (h == g)))) n)
        (off_second (number_of x.parcel == t) (is_moved x.parcel) (is_nil x.stays.items) e.moved)
        (on_flags (number_of x.parcel == t) (ticks_of x.parcel == j) (is_moved x.parcel) x.resident (ends_idle x.stays.items) n e.moved e.resident e.busy)
        (λ q. ap (goes_to g)
        (ap (λ (o : Origin). move_at j (origin_of o).plan.errands) (origin_at x.parcel e.own (eqb-true (number_of x.parcel) t n))
        ∙ ap (λ (k : ℕ). move_at k (run_of x.parcel).plan.errands) (sym (eqb-true (ticks_of x.parcel) j q))
        ∙ e.move))

    pub lines_counted : (cs : List Cause) → All (IsCause starts) cs
        → total (cause_of (line_of t j g)) cs ≡ cond fits (total (cause_of (λ _. fresh t)) cs) 0 + cond goes (total (cause_of (λ _. left_for t j)) cs) 0
    lines_counted cs all =
        total_split (IsCause starts) (cause_of (line_of t j g)) (cause_of (λ _. fresh t)) (cause_of (λ _. left_for t j)) fits goes
        (λ c h. weighs c.reason c.fabric c.transit.value h (number_of c.transit.value.parcel == t) refl) cs all

  module _ (j : ℕ) (some : is_some (move_at j (run_of s.transit.parcel).plan.errands) ≡ true) where
    pub has_move : (x : Transit) → IsOwn starts x.parcel → (b : Bool) → (number_of x.parcel == t) ≡ b → moveless t j (token_of x) ≡ 0
    has_move x o false n = off (number_of x.parcel == t) (not (is_some (move_at j (run_of x.parcel).plan.errands))) n
    has_move x o true n = ap₂ (λ (b v : Bool). one (b && not v)) n (ap (λ (y : Origin). is_some (move_at j (origin_of y).plan.errands)) (sym (origin_at x.parcel o (eqb-true (number_of x.parcel) t n))) ∙ some)

    -- the move stands in its plan wherever it is put in line
    pub all_have_move : (cs : List Cause) → All (IsCause starts) cs → total (cause_of (λ _. moveless t j)) cs ≡ 0
    all_have_move cs all = total_all (IsCause starts) (cause_of (λ _. moveless t j)) (λ c h. has_move c.transit.value (cause_own c.reason c.fabric c.transit.value h) (number_of c.transit.value.parcel == t) refl) cs all

  module _ (ends : IsUnended s.transit.parcel → ⊥) where
    no_first : (r : Reason) (h : ℕ) (x : Transit) → IsReason starts r h x → (b : Bool) → (number_of x.parcel == t) ≡ b → fresh t (token_of x) ≡ 0
    no_first r h x e false n = off (number_of x.parcel == t) (not (is_moved x.parcel) && is_nil x.stays.items) n
    no_first First h x e true n = absurd (ends (subst (λ (y : Start). IsUnended y.transit.parcel) (first_is h x e (eqb-true (number_of x.parcel) t n)) e.1))
    no_first Errand h x e true n = off_second (number_of x.parcel == t) (is_moved x.parcel) (is_nil x.stays.items) e.moved

    -- where its run ends as it was loaded, it isn't put in line so
    pub none_first : (cs : List Cause) → All (IsCause starts) cs → total (cause_of (λ _. fresh t)) cs ≡ 0
    none_first cs all = total_all (IsCause starts) (cause_of (λ _. fresh t)) (λ c h. no_first c.reason c.fabric c.transit.value h (number_of c.transit.value.parcel == t) refl) cs all

  -- ---- moves of its plan

  abbrev pub IsLeftFor : (ℕ → ℕ) → Type 0
  IsLeftFor sum = (j : ℕ) × (is_some (move_at j (run_of s.transit.parcel).plan.errands) ≡ true) × (0 < sum j)

  errand_or : (r : Reason) (h : ℕ) (x : Transit) → IsReason starts r h x → (b : Bool) → (number_of x.parcel == t) ≡ b → (errand_of t r (number_of x.parcel) ≡ 0) ⊎ IsLeftFor (λ j. left_for t j (token_of x))
  errand_or First h x e b n = inl refl
  errand_or Errand h x e false n = inl (ap one n)
  errand_or Errand h x e true n = inr (
    ticks_of x.parcel,
    ap (λ (o : Origin). is_some (move_at (ticks_of x.parcel) (origin_of o).plan.errands)) (origin_at x.parcel e.own (eqb-true (number_of x.parcel) t n)) ∙ ap is_some e.move,
    let f = on_flags (number_of x.parcel == t) (ticks_of x.parcel == ticks_of x.parcel) (is_moved x.parcel) x.resident (ends_idle x.stays.items) n e.moved e.resident e.busy in
        omega (arith, f, ap one (eq-eqb (ticks_of x.parcel) (ticks_of x.parcel) refl)),
  )

  -- where it was put in line for a move of its plan, it has left for one
  pub errand_left : (cs : List Cause) → ByRecursion (IsCause starts) cs → 0 < errands_of t cs → IsLeftFor (λ j. total (cause_of (λ _. left_for t j)) cs)
  errand_left [] a p = absurd (omega (arith, p))
  errand_left (c ∷ cs) a p = by (errand_or c.reason c.fabric c.transit.value a.0 (number_of c.transit.value.parcel == t) refl) (errand_left cs a.1)
    where
      by : (errand_of t c.reason (number_of c.transit.value.parcel) ≡ 0) ⊎ IsLeftFor (λ j. left_for t j (token_of c.transit.value)) → (0 < errands_of t cs → IsLeftFor (λ j. total (cause_of (λ _. left_for t j)) cs))
          → IsLeftFor (λ j. total (cause_of (λ _. left_for t j)) (c ∷ cs))
      by (inl z) next = let r = next (omega (arith, p, z)) in let q = r.2 in (r.0, r.1, omega (arith, q))
      by (inr r) next = let q = r.2 in (r.0, r.1, omega (arith, q))

-- ---- bays

finally_is : (g : ℕ) (c : Cost) (t : ℕ) (ss : List Seat) (ns : List Note) → IsLegalFrom g c ss ns → finally (place_of t ss) (of_tenant t ns) ≡ place_of t (replay ss ns)
finally_is g c t ss [] l = refl
finally_is g c t ss (n ∷ ns) l = step (finally_is g c t (after n.entry.kind ss n) ns l.2) (eqb n.entry.tenant t) refl
  where
    step : finally (place_of t (after n.entry.kind ss n)) (of_tenant t ns) ≡ place_of t (replay (after n.entry.kind ss n) ns) → (b : Bool) → eqb n.entry.tenant t ≡ b
        → finally (place_of t ss) (cond b (n ∷ of_tenant t ns) (of_tenant t ns)) ≡ place_of t (replay (after n.entry.kind ss n) ns)
    step r true e =
        let same = eqb-true n.entry.tenant t e in
        ap (λ (p : Place). finally p (of_tenant t ns)) (sym (subst (λ (u : ℕ). place_of u (after n.entry.kind ss n) ≡ next n.entry.kind (place_of u ss) n) same (place_here g n.entry.kind ss n l.0))) ∙ r
    step r false e = ap (λ (p : Place). finally p (of_tenant t ns)) (sym (place_other n.entry.kind t ss n e)) ∙ r

away : (p : Place) → held each nothing p ≡ 0 → p ≡ Away
away Away e = refl
away (Inside since now came d) e = absurd (omega arith)

by_move : (b v : Bool) → one (b && not v) ≡ 0 → b ≡ true → v ≡ true
by_move true true e n = refl
by_move true false e n = absurd (omega (arith, e))
by_move false v e n = no (sym n)

module _ (t j : ℕ) where
  have_moves : (xs : List Token) → total (moveless t j) xs ≡ 0 → HaveMoveAt t j xs
  have_moves [] e = tt
  have_moves (x ∷ xs) e = (
    λ n. by_move (x.tenant == t) (is_some (move_at j (run_in x.deed).plan.errands)) (omega (arith, e)) (eq-eqb x.tenant t n),
    have_moves xs (omega (arith, e)),
  )

  same_total : (f : Token → ℕ) (xs : List Token) → moves.total f xs ≡ total f xs
  same_total f [] = refl
  same_total f (x ∷ xs) = omega (arith, same_total f xs)

  told_bay : (b : NotedCore) → IsOneClosed b → still t each nothing b ≡ 0 → puts_in (moveless t j) b ≡ 0 → outs_in (passed t j) b ≡ puts_in (passed t j) b + outs_in (left_for t j) b
  told_bay b k s m =
      let g = b.label.fabric in
      let ns = b.notes.items in
      let e = moves_told t j g b.label.capacity ns k.legal (sym (finally_is g b.label.capacity t [] ns k.legal) ∙ away (finally Away (of_tenant t ns)) s) (have_moves (puts ns) m) in
      omega (arith, e, same_total (passed t j) (outs ns), same_total (passed t j) (puts ns), same_total (left_for t j) (outs ns))

  -- whoever came out of the bays behind the move was put in line behind it, or left for it
  pub told_all : (bs : List NotedCore) → ByRecursion IsOneClosed bs → total (still t each nothing) bs ≡ 0 → total (puts_in (moveless t j)) bs ≡ 0
      → total (outs_in (passed t j)) bs ≡ total (puts_in (passed t j)) bs + total (outs_in (left_for t j)) bs
  told_all [] k s m = refl
  told_all (b ∷ bs) k s m =
      let h = told_bay b k.0 (omega (arith, s)) (omega (arith, m)) in
      let r = told_all bs k.1 (omega (arith, s)) (omega (arith, m)) in
      omega (arith, h, r)

-- ---- numbers

fit_in : (a fit : Bool) (n : ℕ) → n ≡ one a → cond fit n 0 ≡ one (a && fit)
fit_in true true n e = e
fit_in true false n e = refl
fit_in false true n e = e
fit_in false false n e = refl

pub begins_once : (first last j : ℕ) (stopped fit : Bool) (n : ℕ) → n ≡ one (nat_lt first last || stopped) → cond ((first == j) && fit) n 0 ≡ one ((first == j) && ((nat_lt j last || stopped) && fit))
begins_once first last j stopped fit n e = by (first == j) refl
  where
    by : (b : Bool) → (first == j) ≡ b → cond (b && fit) n 0 ≡ one (b && ((nat_lt j last || stopped) && fit))
    by true q = fit_in (nat_lt j last || stopped) fit n (e ∙ ap (λ (i : ℕ). one (nat_lt i last || stopped)) (eqb-true first j q))
    by false q = refl

at_most : (b : Bool) → one b ≤ 1
at_most true = omega arith
at_most false = omega arith

pub moves_once : (first j n : ℕ) (goes past : Bool) → (goes ≡ true → one (nat_lt j first) + n ≡ one past) → cond goes n 0 ≡ one (goes && (nat_le first j && past))
moves_once first j n false past h = refl
moves_once first j n true past h = by (cases_lt j first)
  where
    by : (j < first) ⊎ (first ≤ j) → n ≡ one (nat_le first j && past)
    by (inl l) = let e = h refl in let m = at_most past in
        omega (arith, e, m, ap one (lt-ltb j first l), ap (λ (b : Bool). one (b && past)) (lt-leb first j l))
    by (inr l) = let e = h refl in
        omega (arith, e, ap one (le-ltb j first l), ap (λ (b : Bool). one (b && past)) (le-leb first j l))
