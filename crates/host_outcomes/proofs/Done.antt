-- What orders did to one tenant.
use Rattle.std.proofs.Common.{◌≡◌, ℕ, suc, ◌+◌, ◌<◌, ◌≤◌, Bool, true, false, List, [], ◌∷◌, ◌++◌, length, filter, get_or, map, cond, refl, ap, ap₂, ◌∙◌, subst, arith, eq-eqb, Option, Some, None}
use Rattle.std.specs.Prelude.{◌==◌, ◌&&◌, All}
use Rattle.std.specs.List.{AllByRecursion}
use Rattle.std.proofs.lemmas.Bool.{eqb-true}
use Rattle.ten_files.specs.vl_design.specs.Alone.{FreeSave}
use Rattle.fab_orders.specs.ten_parcel.specs.Parcels.{number_of, ticks_of}
use Rattle.host_report.specs.fab_model.specs.declared.transit.Transit.{Transit}
use Rattle.host_report.specs.fab_model.specs.Tokens.{token_of, Token}
use Rattle.fab_orders.specs.fab_bay.specs.declared.noted.NotedCore.{NotedCore}
use Rattle.fab_orders.specs.declared.outcomes.Answer.{Answer}
use Rattle.fab_orders.specs.declared.outcomes.Finding.{Finding}
use Rattle.fab_orders.specs.declared.outcomes.Reached.{Reached}
use Rattle.fab_orders.specs.declared.outcomes.Reached.TheVariants as reached
use Rattle.fab_orders.specs.declared.outcomes.Start.{Start}
use Rattle.fab_orders.specs.declared.outcomes.Wanted.{Wanted}
use Rattle.fab_orders.specs.declared.outcomes.Wanted.TheVariants as wanted
use Rattle.fab_orders.specs.Orders.{back_at, backs_in, found_by, moved_at, moves_in, saves_in, saves_of}
use Rattle.fab_orders.specs.Outcomes.{lefts_there, line_of, IsTrue, IsUnended}
use Rattle.fab_orders.specs.Totals.{total}
use Rattle.host_judge.specs.host_form.specs.Orders.{puts_at, Put}
use Rattle.host_outcomes.proofs.Sums.{one}
pub use Rattle.host_judge.specs.host_form.proofs.Shared.{puts_append}

-- ---- puts

pub puts_first : (g j : ℕ) (p : Put) (ps : List Put) → puts_at g j (p ∷ ps) ≡ cond ((p.fabric == g) && (p.tick == j)) 1 0 + puts_at g j ps
puts_first g j p ps = by ((p.fabric == g) && (p.tick == j))
  where
    by : (b : Bool) → length (cond b (p ∷ filter (λ q. (q.fabric == g) && (q.tick == j)) ps) (filter (λ q. (q.fabric == g) && (q.tick == j)) ps)) ≡ cond b 1 0 + puts_at g j ps
    by true = omega arith
    by false = omega arith

-- ---- where a tenant was put back for saves

abbrev back_for : ℕ → ℕ → Wanted → Reached → Option Finding → List Put
back_for t u (wanted.Save name) (reached.At i) (Some x) = cond (u == t) (record { fabric = x.fabric; tick = i } ∷ []) []
back_for t u w r x = []

abbrev pub puts_back : ℕ → List Answer → List Put
puts_back t [] = []
puts_back t (a ∷ answers) = back_for t a.order.value.tenant a.order.value.wanted a.reached a.finding ++ puts_back t answers

module _ (t g j : ℕ) where
  none_more : (ps : List Put) → puts_at g j ([] ++ ps) ≡ 0 + puts_at g j ps
  none_more ps = omega arith

  back_one : (u : ℕ) (w : Wanted) (r : Reached) (f : Option Finding) (ps : List Put) → puts_at g j (back_for t u w r f ++ ps) ≡ backs_in t j g u w r f + puts_at g j ps
  back_one u (wanted.Move h) r f ps = none_more ps
  back_one u wanted.Stop r f ps = none_more ps
  back_one u (wanted.Save name) (reached.At i) None ps = none_more ps
  back_one u (wanted.Save name) (reached.At i) (Some x) ps = by (u == t)
    where
      swapped : (a b : Bool) → one (a && b) ≡ one (b && a)
      swapped true true = refl
      swapped true false = refl
      swapped false true = refl
      swapped false false = refl

      by : (b : Bool) → puts_at g j (cond b (record { fabric = x.fabric; tick = i } ∷ []) [] ++ ps) ≡ cond (b && ((i == j) && (x.fabric == g))) 1 0 + puts_at g j ps
      by true =
          puts_first g j (record { fabric = x.fabric; tick = i }) ps
          ∙ ap (λ (n : ℕ). n + puts_at g j ps) (swapped (x.fabric == g) (i == j))
      by false = none_more ps
  back_one u (wanted.Save name) (reached.Ended i) f ps = none_more ps
  back_one u wanted.Watch r f ps = none_more ps

  pub back_known : (answers : List Answer) → puts_at g j (puts_back t answers) ≡ back_at t j g answers
  back_known [] = refl
  back_known (a ∷ answers) =
      back_one a.order.value.tenant a.order.value.wanted a.reached a.finding (puts_back t answers)
      ∙ ap (λ (n : ℕ). backs_in t j g a.order.value.tenant a.order.value.wanted a.reached a.finding + n) (back_known answers)

-- ---- answers that are true

module _ (bays : List NotedCore) (starts : List Start) (ended : List Transit) where
  abbrev pub IsTrueOf : ℕ → Wanted → Reached → Option Finding → Type 0
  IsTrueOf u w r f = (d : Start) (e : Transit) → IsTrue bays (get_or starts u d) (get_or ended u e) u w r f

  abbrev pub AreTrue : List Answer → Type 0
  AreTrue answers = All (λ a. (d : Start) (e : Transit) → IsTrue bays (get_or starts a.order.value.tenant d) (get_or ended a.order.value.tenant e) a.order.value.tenant a.order.value.wanted a.reached a.finding) answers

  first_true : (a : Answer) (answers : List Answer) → AreTrue (a ∷ answers) → IsTrueOf a.order.value.tenant a.order.value.wanted a.reached a.finding
  first_true a answers h = h 0 a (omega arith)

  rest_true : (a : Answer) (answers : List Answer) → AreTrue (a ∷ answers) → AreTrue answers
  rest_true a answers h = λ i d l. h (suc i) d (omega (arith, l))

  -- the ticks of its saves are those at which it was put back
  module _ (t : ℕ) (d : Start) (e : Transit) where
    ticks_one : (u : ℕ) (w : Wanted) (r : Reached) (f : Option Finding) → IsTrueOf u w r f → (ps : List Put) (ss : List FreeSave) → map (λ p. p.tick) ps ≡ map (λ s. s.tick) ss
        → map (λ p. p.tick) (back_for t u w r f ++ ps) ≡ map (λ s. s.tick) (saves_in t u w r ++ ss)
    ticks_one u (wanted.Move h) r f i ps ss q = q
    ticks_one u wanted.Stop r f i ps ss q = q
    ticks_one u (wanted.Save name) (reached.At k) None i ps ss q = absurd (i d e)
    ticks_one u (wanted.Save name) (reached.At k) (Some x) i ps ss q = by (u == t)
      where
        by : (b : Bool) → map (λ p. p.tick) (cond b (record { fabric = x.fabric; tick = k } ∷ []) [] ++ ps) ≡ map (λ s. s.tick) (cond b (record { name = name; tick = k } ∷ []) [] ++ ss)
        by true = ap (λ (ns : List ℕ). k ∷ ns) q
        by false = q
    ticks_one u (wanted.Save name) (reached.Ended k) f i ps ss q = q
    ticks_one u wanted.Watch r f i ps ss q = q

    pub ticks_saved : (answers : List Answer) → AreTrue answers → map (λ p. p.tick) (puts_back t answers) ≡ map (λ s. s.tick) (saves_of t answers)
    ticks_saved [] h = refl
    ticks_saved (a ∷ answers) h =
        ticks_one a.order.value.tenant a.order.value.wanted a.reached a.finding (first_true a answers h) (puts_back t answers) (saves_of t answers) (ticks_saved answers (rest_true a answers h))

    -- it had left where it was put back
    abbrev HasLeft : Put → Type 0
    HasLeft p = 0 < total (lefts_there (line_of t p.tick p.fabric)) bays

    left_one : (u : ℕ) (w : Wanted) (r : Reached) (f : Option Finding) (n : (ℕ → Token → ℕ) → ℕ) → IsTrueOf u w r f
        → ((x : Finding) → f ≡ Some x → (v : ℕ → Token → ℕ) → v x.fabric (token_of x.transit.value) ≤ n v) → ((v : ℕ → Token → ℕ) → n v ≤ total (lefts_there v) bays)
        → (ps : List Put) → AllByRecursion HasLeft ps → AllByRecursion HasLeft (back_for t u w r f ++ ps)
    left_one u (wanted.Move h) r f n i m l ps q = q
    left_one u wanted.Stop r f n i m l ps q = q
    left_one u (wanted.Save name) (reached.At k) None n i m l ps q = q
    left_one u (wanted.Save name) (reached.At k) (Some x) n i m l ps q = by (u == t) refl
      where
        three : (a b c : Bool) → a ≡ true → b ≡ true → c ≡ true → one (a && (b && c)) ≡ 1
        three a b c p q r = ap (λ z. one (z && (b && c))) p ∙ ap₂ (λ y z. one (y && z)) q r

        by : (b : Bool) → (u == t) ≡ b → AllByRecursion HasLeft (cond b (record { fabric = x.fabric; tick = k } ∷ []) [] ++ ps)
        by true z =
            let here = i d e in
            let one : line_of t k x.fabric x.fabric (token_of x.transit.value) ≡ 1 =
            three (number_of x.transit.value.parcel == t) (ticks_of x.transit.value.parcel == k) (x.fabric == x.fabric)
            (eq-eqb (number_of x.transit.value.parcel) t (here.0.0 ∙ eqb-true u t z)) (eq-eqb (ticks_of x.transit.value.parcel) k here.0.1) (eq-eqb x.fabric x.fabric refl) in
            (omega (arith, one, m x refl (line_of t k x.fabric), l (line_of t k x.fabric)), q)
        by false z = q
    left_one u (wanted.Save name) (reached.Ended k) f n i m l ps q = q
    left_one u wanted.Watch r f n i m l ps q = q

    found_weight : (a : Answer) (n : ℕ) (x : Finding) → a.finding ≡ Some x → (v : ℕ → Token → ℕ) → v x.fabric (token_of x.transit.value) ≤ found_by v a + n
    found_weight a n x z v = let w : found_by v a ≡ v x.fabric (token_of x.transit.value) = rw z refl in omega (arith, w)

    pub have_left : (answers : List Answer) → AreTrue answers → ((v : ℕ → Token → ℕ) → total (found_by v) answers ≤ total (lefts_there v) bays) → AllByRecursion HasLeft (puts_back t answers)
    have_left [] h l = tt
    have_left (a ∷ answers) h l =
        left_one a.order.value.tenant a.order.value.wanted a.reached a.finding (λ v. total (found_by v) (a ∷ answers)) (first_true a answers h)
        (λ x z v. found_weight a (total (found_by v) answers) x z v) l
        (puts_back t answers) (have_left answers (rest_true a answers h) (λ v. let k = l v in omega (arith, k)))

    -- where its run ends where it begins, it was neither moved nor put back
    module _ (j g : ℕ) (over : IsUnended (get_or starts t d).transit.parcel → ⊥) where
      of_another : (u : ℕ) → IsUnended (get_or starts u d).transit.parcel → (c : Bool) → one ((u == t) && c) ≡ 0
      of_another u n c = by (u == t) refl
        where
          by : (b : Bool) → (u == t) ≡ b → one (b && c) ≡ 0
          by true z = absurd (over (subst (λ (v : ℕ). IsUnended (get_or starts v d).transit.parcel) (eqb-true u t z) n))
          by false z = refl

      none_moved_in : (u : ℕ) (w : Wanted) (r : Reached) (f : Option Finding) → IsTrueOf u w r f → moves_in t j g u w r ≡ 0
      none_moved_in u (wanted.Move h) (reached.At k) None i = absurd (i d e)
      none_moved_in u (wanted.Move h) (reached.At k) (Some x) i = of_another u (i d e).2 ((k == j) && (h == g))
      none_moved_in u (wanted.Move h) (reached.Ended k) f i = refl
      none_moved_in u wanted.Stop r f i = refl
      none_moved_in u (wanted.Save name) r f i = refl
      none_moved_in u wanted.Watch r f i = refl

      pub none_moved : (answers : List Answer) → AreTrue answers → moved_at t j g answers ≡ 0
      none_moved [] h = refl
      none_moved (a ∷ answers) h =
          let one = none_moved_in a.order.value.tenant a.order.value.wanted a.reached a.finding (first_true a answers h) in
          let rest = none_moved answers (rest_true a answers h) in
          omega (arith, one, rest)

      none_back_in : (u : ℕ) (w : Wanted) (r : Reached) (f : Option Finding) → IsTrueOf u w r f → backs_in t j g u w r f ≡ 0
      none_back_in u (wanted.Move h) r f i = refl
      none_back_in u wanted.Stop r f i = refl
      none_back_in u (wanted.Save name) (reached.At k) None i = refl
      none_back_in u (wanted.Save name) (reached.At k) (Some x) i = of_another u (i d e).0.2 ((k == j) && (x.fabric == g))
      none_back_in u (wanted.Save name) (reached.Ended k) f i = refl
      none_back_in u wanted.Watch r f i = refl

      pub none_back : (answers : List Answer) → AreTrue answers → back_at t j g answers ≡ 0
      none_back [] h = refl
      none_back (a ∷ answers) h =
          let one = none_back_in a.order.value.tenant a.order.value.wanted a.reached a.finding (first_true a answers h) in
          let rest = none_back answers (rest_true a answers h) in
          omega (arith, one, rest)
