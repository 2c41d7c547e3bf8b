-- No event of a fabric makes two of its tenants have one number: of no number are there more than before.
use Rattle.std.proofs.Common.{◌≡◌, ◌≤◌, ◌+◌, ℕ, List, [], ◌∷◌, ◌++◌, map, take, drop, arith, refl, sym, ap, ◌∙◌, subst, Bool, true, false, cond, Option, Some, None, append_assoc}
use Rattle.std.specs.Prelude.{◌||◌, if◌then◌else◌, is_some, ◌==◌}
use Rattle.std.proofs.lemmas.Bool.Decides.{nat_tests}
use Rattle.std.proofs.lemmas.List.{take-append-drop}
use Rattle.fab_model.specs.Points.{Point, served}
use Rattle.fab_model.specs.Fabrics.{all_served, all_stepped, arrived, changed, first_of, has, is_of, joining, left, rebuilt, stepped, taken, without, AreOnce, Fabric}
use Rattle.fab_model.specs.Several.{places_of}
use Rattle.fab_model.proofs.Places.{keeps}
use Rattle.fab_model.proofs.Weights.{equal, weight-append, weight_served, weight_stepped}

-- ---- by places

none_is_nowhere : (t : ℕ) (ps : List Point) → first_of t ps ≡ None → places_of t ps ≡ 0
none_is_nowhere t [] e = refl
none_is_nowhere t (p ∷ ps) e = by (is_of t p) e (none_is_nowhere t ps)
  where
    by : (b : Bool) → cond b (Some p) (first_of t ps) ≡ None → (first_of t ps ≡ None → places_of t ps ≡ 0) → cond b 1 0 + places_of t ps ≡ 0
    by true e h = let z : ⊥ = cc in absurd z
    by false e h = let i = h e in omega (arith, i)

nowhere_is_none : (t : ℕ) (ps : List Point) → places_of t ps ≡ 0 → first_of t ps ≡ None
nowhere_is_none t [] e = refl
nowhere_is_none t (p ∷ ps) e = by (is_of t p) e (nowhere_is_none t ps)
  where
    by : (b : Bool) → cond b 1 0 + places_of t ps ≡ 0 → (places_of t ps ≡ 0 → first_of t ps ≡ None) → cond b (Some p) (first_of t ps) ≡ None
    by true e h = absurd (omega (arith, e))
    by false e h = h (omega (arith, e))

once_places : (ps : List Point) → AreOnce ps → (t : ℕ) → places_of t ps ≤ 1
once_places [] once t = omega arith
once_places (p ∷ ps) once t = by (is_of t p) refl (once_places ps once.1 t)
  where
    by : (b : Bool) → is_of t p ≡ b → places_of t ps ≤ 1 → cond b 1 0 + places_of t ps ≤ 1
    by true h i =
        let same : p.number ≡ t = grind (arith, nat_tests, h) in
        let none = none_is_nowhere t ps (subst (λ k. first_of k ps ≡ None) same once.0) in
        omega (arith, none)
    by false h i = omega (arith, i)

places_once : (ps : List Point) → ((t : ℕ) → places_of t ps ≤ 1) → AreOnce ps
places_once [] few = tt
places_once (p ∷ ps) few = (nowhere_is_none p.number ps (at (is_of p.number p) itself (few p.number)), places_once ps (λ t. tail t (is_of t p) (few t)))
  where
    itself : is_of p.number p ≡ true
    itself = grind (arith, nat_tests)

    at : (b : Bool) → b ≡ true → cond b 1 0 + places_of p.number ps ≤ 1 → places_of p.number ps ≡ 0
    at true e h = omega (arith, h)
    at false e h = let z : ⊥ = cc in absurd z

    tail : (t : ℕ) (b : Bool) → cond b 1 0 + places_of t ps ≤ 1 → places_of t ps ≤ 1
    tail t b h = omega (arith, h)

-- where of no number are more, none is twice
once_by : (xs ys : List Point) → ((t : ℕ) → places_of t ys ≤ places_of t xs) → AreOnce xs → AreOnce ys
once_by xs ys fewer once = places_once ys (λ t. let a = fewer t in let b = once_places xs once t in omega (arith, a, b))

-- ---- in lists

places-append : (t : ℕ) (xs ys : List Point) → places_of t (xs ++ ys) ≡ places_of t xs + places_of t ys
places-append t xs ys = weight-append (λ p. if is_of t p then 1 else 0) xs ys

places_without : (t k : ℕ) (ps : List Point) → places_of t (without k ps) ≤ places_of t ps
places_without t k [] = omega arith
places_without t k (p ∷ ps) =
    let i = places_without t k ps in
    elim (is_of k p) as (λ b. places_of t (cond b ps (p ∷ without k ps)) ≤ cond (is_of t p) 1 0 + places_of t ps) [ true ↦ omega arith | false ↦ omega (arith, i) ]

-- the residents, then the line
once_both : (xs ys zs ws : List Point) → ((t : ℕ) → places_of t zs ≤ places_of t xs) → ((t : ℕ) → places_of t ws ≤ places_of t ys) → AreOnce (xs ++ ys) → AreOnce (zs ++ ws)
once_both xs ys zs ws h k =
    once_by (xs ++ ys) (zs ++ ws)
    (λ t. let a = places-append t xs ys in let b = places-append t zs ws in let c = h t in let d = k t in omega (arith, a, b, c, d))

-- ---- events

first-none : (t : ℕ) (xs ys : List Point) → (is_some (first_of t xs) || is_some (first_of t ys)) ≡ false → first_of t (xs ++ ys) ≡ None
first-none t [] ys e = by (first_of t ys) e
  where
    by : (x : Option Point) → is_some x ≡ false → x ≡ None
    by None e = refl
    by (Some p) e = let z : ⊥ = cc in absurd z
first-none t (p ∷ xs) ys e = by (is_of t p) e (first-none t xs ys)
  where
    by : (b : Bool) → (is_some (cond b (Some p) (first_of t xs)) || is_some (first_of t ys)) ≡ false →
        ((is_some (first_of t xs) || is_some (first_of t ys)) ≡ false → first_of t (xs ++ ys) ≡ None) → cond b (Some p) (first_of t (xs ++ ys)) ≡ None
    by true e h = let z : ⊥ = cc in absurd z
    by false e h = h e

once_more : (p : Point) (ps : List Point) → AreOnce ps → first_of p.number ps ≡ None → AreOnce (ps ++ p ∷ [])
once_more p ps once new = places_once (ps ++ p ∷ []) (λ t. by t (is_of t p) refl)
  where
    by : (t : ℕ) (b : Bool) → is_of t p ≡ b → places_of t (ps ++ p ∷ []) ≤ 1
    by t true h =
        let same : p.number ≡ t = grind (arith, nat_tests, h) in
        let none = none_is_nowhere t ps (subst (λ k. first_of k ps ≡ None) same new) in
        let a = places-append t ps (p ∷ []) in
        let one : places_of t (p ∷ []) ≡ 1 = ap (λ b. cond b 1 0 + 0) h in
        omega (arith, none, a, one)
    by t false h =
        let few = once_places ps once t in
        let a = places-append t ps (p ∷ []) in
        let zero : places_of t (p ∷ []) ≡ 0 = ap (λ b. cond b 1 0 + 0) h in
        omega (arith, few, a, zero)

pub once_arrived : (p : Point) (f : Fabric) → AreOnce (f.residents ++ f.line) → has p.number f ≡ false → AreOnce ((arrived p f).residents ++ (arrived p f).line)
once_arrived p f once new =
    subst (λ ps. AreOnce ps) (append_assoc f.residents f.line (p ∷ []))
    (once_more p (f.residents ++ f.line) once (first-none p.number f.residents f.line new))

pub once_stepped : (f : Fabric) → AreOnce (f.residents ++ f.line) → AreOnce ((all_stepped f).residents ++ (all_stepped f).line)
once_stepped f =
    once_both f.residents f.line (map (stepped f.holding) f.residents) f.line
    (λ t. let e = weight_stepped (λ a b. a ≡ b) equal (λ p. if is_of t p then 1 else 0) (keeps (λ n o. if n == t then 1 else 0)) f.holding f.residents in omega (arith, e)) (λ t. omega arith)

pub once_served : (t : ℕ) (f : Fabric) → AreOnce (f.residents ++ f.line) → AreOnce ((all_served t f).residents ++ (all_served t f).line)
once_served t f =
    once_both f.residents f.line (changed t served f.residents) f.line
    (λ k. let e = weight_served (λ a b. a ≡ b) equal (λ p. if is_of k p then 1 else 0) (keeps (λ n o. if n == k then 1 else 0)) t f.residents in omega (arith, e)) (λ k. omega arith)

pub once_rebuilt : (f : Fabric) → AreOnce (f.residents ++ f.line) → AreOnce ((rebuilt f).residents ++ (rebuilt f).line)
once_rebuilt f once =
    let n = joining f in
    let same : f.residents ++ f.line ≡ (f.residents ++ take n f.line) ++ drop n f.line
    = ap (λ ps. f.residents ++ ps) (sym (take-append-drop n f.line)) ∙ sym (append_assoc f.residents (take n f.line) (drop n f.line)) in
    subst (λ ps. AreOnce ps) same once

pub once_taken : (t : ℕ) (f : Fabric) → AreOnce (f.residents ++ f.line) → AreOnce ((taken t f).residents ++ (taken t f).line)
once_taken t f once = by (is_some (first_of t f.residents))
  where
    by : (b : Bool) → AreOnce ((cond b (record f { residents = without t f.residents }) (record f { line = without t f.line })).residents ++ (cond b (record f { residents = without t f.residents }) (record f { line = without t f.line })).line)
    by true = once_both f.residents f.line (without t f.residents) f.line (λ k. places_without k t f.residents) (λ k. omega arith) once
    by false = once_both f.residents f.line f.residents (without t f.line) (λ k. omega arith) (λ k. places_without k t f.line) once

pub once_left : (t : ℕ) (f : Fabric) → AreOnce (f.residents ++ f.line) → AreOnce ((left t f).residents ++ (left t f).line)
once_left t f = once_both f.residents f.line (without t f.residents) f.line (λ k. places_without k t f.residents) (λ k. omega arith)

pub once_residents : (f : Fabric) → AreOnce (f.residents ++ f.line) → AreOnce f.residents
once_residents f = once_by (f.residents ++ f.line) f.residents (λ t. let a = places-append t f.residents f.line in omega (arith, a))
