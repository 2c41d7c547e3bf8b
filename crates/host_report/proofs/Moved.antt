-- The moves of a plan at one tick.
use Rattle.std.proofs.Common.{◌≡◌, ℕ, ◌+◌, ◌<◌, eqb, Bool, true, false, List, [], ◌∷◌, ◌++◌, length, filter, cond, refl, sym, ap, ◌∙◌, arith, Option, Some, None}
use Rattle.std.specs.Prelude.{◌==◌, ◌&&◌, ◌||◌, nat_lt, if◌then◌else◌, is_some}
use Rattle.std.specs.List.{AllByRecursion}
use Rattle.std.proofs.lemmas.Bool.{eqb-true, false≢true, ltb-true}
use Rattle.ten_files.specs.vl_design.specs.Alone.{Due, Errand, Move, Plan, SaveAs, Stop}
use Rattle.fab_model.specs.ten_plan.specs.Plans.{is_save, may_precede, move_at, move_to, or_else, AreOrdered, IsPlan}
use Rattle.host_files.specs.host_form.specs.Orders.{puts_at, Put}
use Rattle.host_files.specs.host_form.specs.Runs as put
use Rattle.host_files.specs.host_form.specs.Runs.{moves_when}
use Rattle.host_report.specs.Told.{goes_to}

is_later : (a b s : Bool) → (a || (b && s)) ≡ true → s ≡ false → a ≡ true
is_later true b s h z = refl
is_later false true s h z = absurd (false≢true (sym z ∙ h))
is_later false false s h z = h

not_at : (a b j : ℕ) → a ≡ j → a < b → eqb b j ≡ false
not_at a b j e l = step (eqb b j) refl
  where
    step : (x : Bool) → eqb b j ≡ x → x ≡ false
    step true h = let q = eqb-true b j h in absurd (omega (arith, q, e, l))
    step false h = refl

module _ (g j : ℕ) (test : ℕ → Bool) where
  -- 1 where an errand's move goes to the fabric, and the tick passes
  abbrev goes : Option ℕ → ℕ
  goes o = if goes_to g o && test j then 1 else 0

  nowhere : (b : Bool) → goes (cond b None None) ≡ 0
  nowhere true = refl
  nowhere false = refl

  skips : (b : Bool) (ys : List Put) → puts_at g j (cond b [] [] ++ ys) ≡ puts_at g j ys
  skips true ys = refl
  skips false ys = refl

  moves_one : (h k : ℕ) (ys : List Put) → puts_at g j (cond (test k) (record { fabric = h; tick = k } ∷ []) [] ++ ys) ≡ goes (cond (eqb k j) (Some h) None) + puts_at g j ys
  moves_one h k ys = step (eqb k j) refl
    where
      drop_other : (a c : Bool) → eqb k j ≡ false → puts_at g j (cond a (record { fabric = h; tick = k } ∷ []) [] ++ ys) ≡ puts_at g j ys
      drop_other false c e = refl
      drop_other true c e = ap (λ (b : Bool). length (cond ((h == g) && b) (record { fabric = h; tick = k } ∷ filter (λ p. (p.fabric == g) && (p.tick == j)) ys) (filter (λ p. (p.fabric == g) && (p.tick == j)) ys))) e ∙ none (h == g)
        where
          none : (b : Bool) → length (cond (b && false) (record { fabric = h; tick = k } ∷ filter (λ p. (p.fabric == g) && (p.tick == j)) ys) (filter (λ p. (p.fabric == g) && (p.tick == j)) ys)) ≡ puts_at g j ys
          none true = refl
          none false = refl

      keep : (a : Bool) → eqb k j ≡ true → puts_at g j (cond a (record { fabric = h; tick = k } ∷ []) [] ++ ys) ≡ cond ((h == g) && a) 1 0 + puts_at g j ys
      keep false e = none (h == g)
        where
          none : (b : Bool) → puts_at g j ys ≡ cond (b && false) 1 0 + puts_at g j ys
          none true = omega arith
          none false = omega arith
      keep true e = ap (λ (b : Bool). length (cond ((h == g) && b) (record { fabric = h; tick = k } ∷ filter (λ p. (p.fabric == g) && (p.tick == j)) ys) (filter (λ p. (p.fabric == g) && (p.tick == j)) ys))) e ∙ one (h == g)
        where
          one : (b : Bool) → length (cond (b && true) (record { fabric = h; tick = k } ∷ filter (λ p. (p.fabric == g) && (p.tick == j)) ys) (filter (λ p. (p.fabric == g) && (p.tick == j)) ys)) ≡ cond (b && true) 1 0 + puts_at g j ys
          one true = omega arith
          one false = omega arith

      step : (b : Bool) → eqb k j ≡ b → puts_at g j (cond (test k) (record { fabric = h; tick = k } ∷ []) [] ++ ys) ≡ goes (cond b (Some h) None) + puts_at g j ys
      step true e = keep (test k) e ∙ ap (λ (i : ℕ). cond ((h == g) && test i) 1 0 + puts_at g j ys) (eqb-true k j e)
      step false e = let z = drop_other (test k) true e in omega (arith, z)

  errand_one : (k : ℕ) (due : Due) (ys : List Put) → puts_at g j (cond (test k) (put.move_at k due) [] ++ ys) ≡ goes (cond (eqb k j) (move_to due) None) + puts_at g j ys
  errand_one k (SaveAs name) ys = let a = skips (test k) ys in let b = nowhere (eqb k j) in omega (arith, a, b)
  errand_one k (Move h) ys = moves_one h k ys
  errand_one k Stop ys = let a = skips (test k) ys in let b = nowhere (eqb k j) in omega (arith, a, b)

  has_move : (b : Bool) (due : Due) → is_some (cond b (move_to due) None) ≡ true → (b ≡ true) × (is_save due ≡ false)
  has_move true (SaveAs name) h = absurd (false≢true h)
  has_move true (Move f) h = (refl, refl)
  has_move true Stop h = absurd (false≢true h)
  has_move false due h = absurd (false≢true h)

  -- behind a move no other stands at its tick
  none_later : (e : Errand) (es : List Errand) → e.tick ≡ j → is_save e.due ≡ false → AllByRecursion (λ f. may_precede e f ≡ true) es → puts_at g j (moves_when test es) ≡ 0
  none_later e [] a s l = refl
  none_later e (f ∷ fs) a s l =
      let later = ltb-true e.tick f.tick (is_later (nat_lt e.tick f.tick) (e.tick == f.tick) (is_save e.due) l.0 s) in
      let here : goes (cond (eqb f.tick j) (move_to f.due) None) ≡ 0 = ap (λ (b : Bool). goes (cond b (move_to f.due) None)) (not_at e.tick f.tick j a later) in
      let one = errand_one f.tick f.due (moves_when test fs) in
      let rest = none_later e fs a s l.1 in
      omega (arith, here, one, rest)

  joined : (o m : Option ℕ) (n : ℕ) → (is_some o ≡ true → n ≡ 0) → n ≡ goes m → (goes o + n) ≡ goes (or_else o m)
  joined None m n z r = omega (arith, r)
  joined (Some h) m n z r = let e = z refl in omega (arith, e)

  moves_by : (es : List Errand) → AreOrdered es → puts_at g j (moves_when test es) ≡ goes (move_at j es)
  moves_by [] o = refl
  moves_by (e ∷ es) o =
      errand_one e.tick e.due (moves_when test es)
      ∙ joined (cond (eqb e.tick j) (move_to e.due) None) (move_at j es) (puts_at g j (moves_when test es))
      (λ h. let p = has_move (eqb e.tick j) e.due h in none_later e es (eqb-true e.tick j p.0) p.1 o.0)
      (moves_by es o.1)

pub moves_once : (g j : ℕ) (test : ℕ → Bool) (p : Plan) → IsPlan p → puts_at g j (moves_when test p.errands) ≡ (if goes_to g (move_at j p.errands) && test j then 1 else 0)
moves_once g j test p i = moves_by g j test p.errands i.ordered
