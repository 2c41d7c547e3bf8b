-- How far residents have stepped, and what they take.
use Rattle.std.proofs.Common.{◌≡◌, ℕ, zero, suc, ◌+◌, ◌-◌, ◌<◌, ◌≤◌, Bool, true, false, List, [], ◌∷◌, ◌++◌, length, set, get_or, map, take, drop, refl, sym, ap, ◌∙◌, arith, subst}
use Rattle.std.specs.Prelude.{if◌then◌else◌}
use Rattle.std.proofs.lemmas.List.{length-map, length-take-le, get_or-append_right, get_or-drop, append-nil, drop_all, take_all}
use Rattle.std.proofs.lemmas.List.Edits.{map_over_more}
use Rattle.fab_join.specs.Parts.{PartData}
use Rattle.ten_core.specs.sub_nodes.specs.Code.{table_of}
use Rattle.ten_core.specs.sub_nodes.specs.Stands.{at_trap}
use Rattle.fab_model.specs.Points.{Point, called, cost_of, cycled, saved, served, run_in}
use Rattle.fab_model.specs.Fabrics.{can_step, changed, is_of, plus, stepped, steppers, total}
use Rattle.fab_core.specs.declared.resident.Resident.{Resident}
use Rattle.fab_core.specs.Standing.{ArePartsApart, AreStanding, Stands}
use Rattle.fab_core.proofs.Residents.{Changes, SomePoint, some-point, standing-set}

abbrev pub stepped_first : (holding : Bool) → ℕ → List Point → List Point
stepped_first holding i ps = map (stepped holding) (take i ps) ++ drop i ps

pub next-point : (holding : Bool) (i : ℕ) (ps : List Point) (d : Point) → i < length ps → get_or (stepped_first holding i ps) i d ≡ get_or ps i d
next-point holding i ps d lt =
    let size : length (map (stepped holding) (take i ps)) ≡ i = length-map (take i ps) (stepped holding) ∙ length-take-le i ps (omega (arith, lt)) in
    get_or-append_right (map (stepped holding) (take i ps)) (drop i ps) i i d size (omega arith)
    ∙ get_or-drop i ps (i - i) d ∙ ap (λ k. get_or ps k d) (omega arith)

pub stepped-long : (holding : Bool) (i : ℕ) (ps : List Point) → length (stepped_first holding i ps) ≡ length ps
stepped-long holding zero ps = refl
stepped-long holding (suc i) [] = refl
stepped-long holding (suc i) (p ∷ ps) = ap suc (stepped-long holding i ps)

count-more : (b : Bool) (n m x : ℕ) → n ≡ m + x → (if b then suc n else n) ≡ (if b then suc m else m) + x
count-more true n m x e = omega (arith, e)
count-more false n m x e = e

count-one : (b : Bool) → (if b then suc 0 else 0) ≡ 0 + (if b then 1 else 0)
count-one true = refl
count-one false = refl

steppers-suc : (holding : Bool) (ps : List Point) (i : ℕ) (d : Point) → i < length ps → steppers holding (take (suc i) ps) ≡ steppers holding (take i ps) + (if can_step holding (get_or ps i d) then 1 else 0)
steppers-suc holding [] i d lt = let z : ⊥ = omega (arith, lt) in absurd z
steppers-suc holding (p ∷ ps) zero d lt = count-one (can_step holding p)
steppers-suc holding (p ∷ ps) (suc i) d lt =
    count-more (can_step holding p) (steppers holding (take (suc i) ps)) (steppers holding (take i ps)) (if can_step holding (get_or ps i d) then 1 else 0) (steppers-suc holding ps i d (omega (arith, lt)))

pub steppers-more : (holding : Bool) (ps : List Point) (i : ℕ) (d : Point) → i < length ps → steppers holding (take (i + 1) ps) ≡ steppers holding (take i ps) + (if can_step holding (get_or ps i d) then 1 else 0)
steppers-more holding ps i d lt = let e : i + 1 ≡ suc i = omega arith in ap (λ n. steppers holding (take n ps)) e ∙ steppers-suc holding ps i d lt

counted-next : (holding : Bool) (ps : List Point) (i : ℕ) (p : Point) (count next : ℕ) (b : Bool) → i < length ps → get_or ps i p ≡ p → next ≡ count + (if b then 1 else 0) → b ≡ can_step holding p
    → count ≡ steppers holding (take i ps) → next ≡ steppers holding (take (i + 1) ps)
counted-next holding ps i p count next b lt at more can so =
    more
    ∙ ap (λ x. count + (if x then 1 else 0)) can
    ∙ ap (λ n. n + (if can_step holding p then 1 else 0)) so
    ∙ ap (λ x. steppers holding (take i ps) + (if can_step holding x then 1 else 0)) (sym at)
    ∙ sym (steppers-more holding ps i p lt)

-- the next resident has stepped too
module _ (holding : Bool) (j new : List PartData) (rs : List Resident) (i : ℕ) (old r : Resident) (ch : Changes j new rs i old r) (ps : List Point)
    (now : AreStanding j rs (stepped_first holding i ps)) where
  abbrev s : SomePoint j old (stepped_first holding i ps) i
  s = some-point j rs (stepped_first holding i ps) i old ch.there ch.read now

  inside : i < length ps
  inside = let a = stepped-long holding i ps in let b = s.there in omega (arith, a, b)

  pub standing-next : ArePartsApart rs → ((p : Point) → Stands j old p → Stands new r (stepped holding p)) → AreStanding new (set rs i r) (stepped_first holding (i + 1) ps)
  standing-next apart g =
      subst (AreStanding new (set rs i r))
      (map_over_more (stepped holding) ps (stepped_first holding i ps) i s.point inside refl (sym (s.is s.point)))
      (standing-set j new rs i old r ch (stepped_first holding i ps) (stepped holding s.point) apart (g s.point s.stands) now)

  pub steps-next : (count next : ℕ) (b : Bool) → next ≡ count + (if b then 1 else 0) → ((p : Point) → Stands j old p → b ≡ can_step holding p) → count ≡ steppers holding (take i ps)
      → next ≡ steppers holding (take (i + 1) ps)
  steps-next count next b more can so =
      counted-next holding ps i s.point count next b inside (sym (next-point holding i ps s.point inside) ∙ s.is s.point) more (can s.point s.stands) so

pub stepped-all : (holding : Bool) (i : ℕ) (ps : List Point) → length ps ≤ i → stepped_first holding i ps ≡ map (stepped holding) ps
stepped-all holding i ps le =
    ap (λ xs. map (stepped holding) xs ++ drop i ps) (take_all i ps le) ∙ ap (λ xs. map (stepped holding) ps ++ xs) (drop_all i ps le) ∙ append-nil (map (stepped holding) ps)

-- ---- what they take

cost-stepped : (b : Bool) (p : Point) → cost_of (if b then cycled p else p) ≡ cost_of p
cost-stepped true p = refl
cost-stepped false p = refl

pub total-stepped : (holding : Bool) (ps : List Point) → total (map (stepped holding) ps) ≡ total ps
total-stepped holding [] = refl
total-stepped holding (p ∷ ps) =
    ap (λ x. plus x (total (map (stepped holding) ps))) (cost-stepped (can_step holding p) p) ∙ ap (plus (cost_of p)) (total-stepped holding ps)

cost-served : (b : Bool) (p : Point) → cost_of (if b then called p else saved p) ≡ cost_of p
cost-served true p = refl
cost-served false p = refl

total-by : (b : Bool) (p : Point) (ps qs : List Point) → total qs ≡ total ps → total (if b then served p ∷ ps else p ∷ qs) ≡ total (p ∷ ps)
total-by true p ps qs e = ap (λ x. plus x (total ps)) (cost-served (at_trap (table_of (run_in p).flat) p.stage) p)
total-by false p ps qs e = ap (plus (cost_of p)) e

pub total-served : (t : ℕ) (ps : List Point) → total (changed t served ps) ≡ total ps
total-served t [] = refl
total-served t (p ∷ ps) = total-by (is_of t p) p ps (changed t served ps) (total-served t ps)
