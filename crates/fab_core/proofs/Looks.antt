-- What is looked at in a core, from a place on.
use Rattle.std.proofs.Common.{◌≡◌, ℕ, suc, ◌+◌, ◌<◌, ◌≤◌, Bool, true, Option, Some, List, [], ◌∷◌, length, get_or, drop, refl, sym, ap, ◌∙◌, arith, subst}
use Rattle.std.specs.Prelude.{◌&&◌, if◌then◌else◌, is_some, slice_get}
use Rattle.std.proofs.lemmas.List.{at_drop_more}
use Rattle.fab_model.specs.ten_parcel.specs.declared.tenant.Tenant.{Tenant}
use Rattle.fab_model.specs.Points.{Point, cost_of, due, rests, waits}
use Rattle.fab_model.specs.Fabrics.{Fabric, can_step, first_leaving, first_waiting, head_fits, is_still, plus, steppers, total, within}
use Rattle.fab_core.specs.declared.cores.FabCore.{FabCore}
use Rattle.fab_core.specs.declared.resident.Resident.{Resident}
use Rattle.fab_core.specs.Standing.{AreWaiting, IsAtRest, IsFabric}
use Rattle.fab_core.proofs.Residents.{SomePoint, some-equal, some-point, standing-long}

-- a resident that is looked at in a core
pub looked-at : (x : FabCore) (f : Fabric) (xs : List Resident) (i : ℕ) (r : Resident) → xs ≡ x.residents.items → i < length xs → r ≡ get_or xs i r → IsFabric x f → SomePoint x.joined r f.residents i
looked-at x f xs i r e lt read h =
    some-point x.joined x.residents.items f.residents i r (subst (λ (ys : List Resident). i < length ys) e lt) (read ∙ ap (λ ys. get_or ys i r) e) h.residents

pub looked-all : (x : FabCore) (f : Fabric) (xs : List Resident) (i : ℕ) → xs ≡ x.residents.items → length xs ≤ i → IsFabric x f → length f.residents ≤ i
looked-all x f xs i e le h =
    let a = ap length e in
    let b = standing-long x.joined x.residents.items f.residents h.residents in
    omega (arith, le, a, b)

-- the head of the line
pub record Head (t : Tenant) (ps : List Point) : Type 0 where
  pub point : Point
  pub rest : List Point
  pub is : ps ≡ point ∷ rest
  pub there : IsAtRest t point

pub head-at : (ts : List Tenant) (ps : List Point) (t : Tenant) → AreWaiting ts ps → ◌≡◌ {A = Option Tenant} (Some t) (slice_get ts 0) → Head t ps
head-at [] ps t h is = let z : ⊥ = cc in absurd z
head-at (x ∷ ts) [] t h is = absurd h
head-at (x ∷ ts) (y ∷ ps) t h is = record { point = y; rest = ps; is = refl; there = subst (λ z. IsAtRest z y) (sym (some-equal t x is)) h.0 }

pub head-is : (f : Fabric) (p : Point) (rest : List Point) → f.line ≡ p ∷ rest → head_fits f ≡ within (plus (total f.residents) (cost_of p)) f.capacity
head-is f p rest e = ap (λ ls. head_fits (record f { line = ls })) e

-- ---- tests from a place on

abbrev pub all_rest : List Point → Bool
all_rest [] = true
all_rest (p ∷ ps) = rests p && all_rest ps

still-of : (f : Fabric) (ps : List Point) → is_still (record f { residents = ps }) ≡ all_rest ps
still-of f [] = refl
still-of f (p ∷ ps) = ap (λ x. rests p && x) (still-of f ps)

pub still-is : (f : Fabric) → is_still f ≡ all_rest f.residents
still-is f = still-of f f.residents

module _ (ps : List Point) (i : ℕ) (p : Point) (lt : i < length ps) (is : (d : Point) → get_or ps i d ≡ p) where
  pub rest-more : all_rest (drop i ps) ≡ (rests p && all_rest (drop (i + 1) ps))
  rest-more = at_drop_more all_rest ps i p lt ∙ ap (λ x. rests x && all_rest (drop (i + 1) ps)) (is p)

  pub wait-more : first_waiting (drop i ps) ≡ (if waits p then Some p.number else first_waiting (drop (i + 1) ps))
  wait-more = at_drop_more first_waiting ps i p lt ∙ ap (λ (x : Point). if waits x then Some x.number else first_waiting (drop (i + 1) ps)) (is p)

  pub leave-more : first_leaving (drop i ps) ≡ (if is_some (due p) then Some p.number else first_leaving (drop (i + 1) ps))
  leave-more = at_drop_more first_leaving ps i p lt ∙ ap (λ (x : Point). if is_some (due x) then Some x.number else first_leaving (drop (i + 1) ps)) (is p)

  pub step-more : (holding : Bool) → steppers holding (drop i ps) ≡ (if can_step holding p then suc (steppers holding (drop (i + 1) ps)) else steppers holding (drop (i + 1) ps))
  step-more holding =
      at_drop_more (steppers holding) ps i p lt
      ∙ ap (λ (x : Point). if can_step holding x then suc (steppers holding (drop (i + 1) ps)) else steppers holding (drop (i + 1) ps)) (is p)
