-- The first of a number.
use Rattle.std.proofs.Common.{◌≡◌, ℕ, suc, ◌+◌, ◌<◌, Bool, true, false, Option, Some, None, List, [], ◌∷◌, length, set, get_or, map, refl, sym, ap, ◌∙◌, arith, subst}
use Rattle.std.specs.Prelude.{◌==◌, if◌then◌else◌, is_some, option_map, position}
use Rattle.std.specs.List.{remove}
use Rattle.std.proofs.lemmas.Bool.Decides.{nat_tests}
use Rattle.std.proofs.lemmas.List.{set-get_or}
use Rattle.fab_join.specs.Parts.{PartData, part_at}
use Rattle.fab_model.specs.ten_parcel.specs.declared.tenant.Tenant.{Tenant}
use Rattle.fab_model.specs.Points.{Point}
use Rattle.fab_model.specs.Fabrics.{Fabric, changed, first_of, is_of, without}
use Rattle.fab_core.specs.declared.cores.FabCore.{FabCore}
use Rattle.fab_core.specs.declared.resident.Resident.{Resident}
use Rattle.fab_core.specs.Standing.{ArePartsApart, AreStanding, AreWaiting, IsFabric, Stands}
use Rattle.fab_core.proofs.Residents.{Changes, SomePoint, apart-set, some-equal, some-point, standing-long, standing-set}

position-cons : {X : Type 0} (p : X → Bool) (x : X) (xs : List X) → position p (x ∷ xs) ≡ (if p x then Some 0 else option_map (λ k. k + 1) (position p xs))
position-cons p x xs = grind (arith, nat_tests)

-- a place depends on numbers alone
position-map : {X : Type 0} (number : X → ℕ) (t : ℕ) (xs : List X) → position (λ x. number x == t) xs ≡ position (λ n. n == t) (map number xs)
position-map number t [] = refl
position-map number t (x ∷ xs) =
    position-cons (λ y. number y == t) x xs
    ∙ ap (λ o. if number x == t then Some 0 else option_map (λ k. k + 1) o) (position-map number t xs)
    ∙ sym (position-cons (λ n. n == t) (number x) (map number xs))

pub standing-numbers : (j : List PartData) (rs : List Resident) (ps : List Point) → AreStanding j rs ps → map (λ r. r.tenant.shell.number) rs ≡ map (λ p. p.number) ps
standing-numbers j [] [] h = refl
standing-numbers j [] (p ∷ ps) h = absurd h
standing-numbers j (r ∷ rs) [] h = absurd h
standing-numbers j (r ∷ rs) (p ∷ ps) h =
    ap (λ n. n ∷ map (λ (x : Resident). x.tenant.shell.number) rs) h.0.point.number ∙ ap (λ ns. p.number ∷ ns) (standing-numbers j rs ps h.1)

pub waiting-numbers : (ts : List Tenant) (ps : List Point) → AreWaiting ts ps → map (λ t. t.shell.number) ts ≡ map (λ p. p.number) ps
waiting-numbers [] [] h = refl
waiting-numbers [] (p ∷ ps) h = absurd h
waiting-numbers (t ∷ ts) [] h = absurd h
waiting-numbers (t ∷ ts) (p ∷ ps) h =
    ap (λ n. n ∷ map (λ (x : Tenant). x.shell.number) ts) h.0.point.number ∙ ap (λ ns. p.number ∷ ns) (waiting-numbers ts ps h.1)

pub resident-place : (t : ℕ) (j : List PartData) (rs : List Resident) (ps : List Point) → AreStanding j rs ps → position (λ r. r.tenant.shell.number == t) rs ≡ position (is_of t) ps
resident-place t j rs ps h =
    position-map (λ (r : Resident). r.tenant.shell.number) t rs ∙ ap (position (λ n. n == t)) (standing-numbers j rs ps h) ∙ sym (position-map (λ (p : Point). p.number) t ps)

pub waiter-place : (t : ℕ) (ts : List Tenant) (ps : List Point) → AreWaiting ts ps → position (λ x. x.shell.number == t) ts ≡ position (is_of t) ps
waiter-place t ts ps h =
    position-map (λ (x : Tenant). x.shell.number) t ts ∙ ap (position (λ n. n == t)) (waiting-numbers ts ps h) ∙ sym (position-map (λ (p : Point). p.number) t ps)

some-by : (b : Bool) (o : Option ℕ) (p : Point) (q : Option Point) → is_some o ≡ is_some q → is_some (if b then Some 0 else option_map (λ k. k + 1) o) ≡ is_some (if b then Some p else q)
some-by true o p q e = refl
some-by false None p q e = e
some-by false (Some k) p q e = e

pub first-some : (t : ℕ) (ps : List Point) → is_some (position (is_of t) ps) ≡ is_some (first_of t ps)
first-some t [] = refl
first-some t (p ∷ ps) = ap is_some (position-cons (is_of t) p ps) ∙ some-by (is_of t p) (position (is_of t) ps) p (first_of t ps) (first-some t ps)

-- the first of a number is at a place
pub record FirstAt (t : ℕ) (ps : List Point) (k : ℕ) : Type 0 where
  pub there : k < length ps
  pub first : (d : Point) → first_of t ps ≡ Some (get_or ps k d)
  pub change : (f : Point → Point) (d : Point) → changed t f ps ≡ set ps k (f (get_or ps k d))
  pub out : without t ps ≡ remove ps k

first-here : (t : ℕ) (p : Point) (ps : List Point) → is_of t p ≡ true → FirstAt t (p ∷ ps) 0
first-here t p ps e = record {
  there = omega arith;
  first = λ d. ap (λ b. if b then Some p else first_of t ps) e;
  change = λ f d. ap (λ b. if b then f p ∷ ps else p ∷ changed t f ps) e;
  out = ap (λ b. if b then ps else p ∷ without t ps) e;
}

first-behind : (t : ℕ) (p : Point) (ps : List Point) (k : ℕ) → is_of t p ≡ false → FirstAt t ps k → FirstAt t (p ∷ ps) (suc k)
first-behind t p ps k e h = record {
  there = let l = h.there in omega (arith, l);
  first = λ d. ap (λ b. if b then Some p else first_of t ps) e ∙ h.first d;
  change = λ f d. ap (λ b. if b then f p ∷ ps else p ∷ changed t f ps) e ∙ ap (λ xs. p ∷ xs) (h.change f d);
  out = ap (λ b. if b then ps else p ∷ without t ps) e ∙ ap (λ xs. p ∷ xs) h.out;
}

first-by : (t : ℕ) (p : Point) (ps : List Point) (b : Bool) (o : Option ℕ) (k : ℕ) → is_of t p ≡ b → position (is_of t) ps ≡ o → ((m : ℕ) → position (is_of t) ps ≡ Some m → FirstAt t ps m) →
    (if b then Some 0 else option_map (λ n. n + 1) o) ≡ Some k → FirstAt t (p ∷ ps) k
first-by t p ps true o k e f h is = subst (FirstAt t (p ∷ ps)) (some-equal 0 k is) (first-here t p ps e)
first-by t p ps false None k e f h is = let z : ⊥ = cc in absurd z
first-by t p ps false (Some m) k e f h is = subst (FirstAt t (p ∷ ps)) (let s : suc m ≡ m + 1 = omega arith in s ∙ some-equal (m + 1) k is) (first-behind t p ps m e (h m f))

pub first-at : (t : ℕ) (ps : List Point) (k : ℕ) → position (is_of t) ps ≡ Some k → FirstAt t ps k
first-at t [] k e = let z : ⊥ = cc in absurd z
first-at t (p ∷ ps) k e = first-by t p ps (is_of t p) (position (is_of t) ps) k refl refl (first-at t ps) (sym (position-cons (is_of t) p ps) ∙ e)

-- ---- the first of a number changes

-- the resident of a place, which is the first of a number
pub record Found (t : ℕ) (j : List PartData) (rs : List Resident) (ps : List Point) (k : ℕ) (old : Resident) : Type 0 where
  pub first : FirstAt t ps k
  pub there : k < length rs
  pub read : old ≡ get_or rs k old
  pub standing : AreStanding j rs ps

-- the resident of the place that was found in a core
pub found-at : (t : ℕ) (x : FabCore) (f : Fabric) (xs : List Resident) (o : Option ℕ) (k : ℕ) (old : Resident) → xs ≡ x.residents.items → o ≡ position (λ r. r.tenant.shell.number == t) xs → o ≡ Some k
    → old ≡ get_or x.residents.items k old → IsFabric x f → Found t x.joined x.residents.items f.residents k old
found-at t x f xs o k old e place is read h =
    let at = first-at t f.residents k (sym (resident-place t x.joined x.residents.items f.residents h.residents) ∙ (ap (λ (rs : List Resident). position (λ r. r.tenant.shell.number == t) rs) (sym e) ∙ (sym place ∙ is))) in
    let long = standing-long x.joined x.residents.items f.residents h.residents in
    let there = at.there in
    record { first = at; there = omega (arith, long, there); read = read; standing = h.residents }

module _ (t : ℕ) (j : List PartData) (rs : List Resident) (ps : List Point) (k : ℕ) (old : Resident) (h : Found t j rs ps k old) where
  pub found-point : SomePoint j old ps k
  found-point = some-point j rs ps k old h.there h.read h.standing

  pub found-stands : (p : Point) → first_of t ps ≡ Some p → Stands j old p
  found-stands p e =
      let s = found-point in
      subst (Stands j old) (some-equal s.point p (sym (h.first.first s.point ∙ ap (λ (x : Point). Some x) (s.is s.point)) ∙ e)) s.stands

  module _ (new : List PartData) (r : Resident) (apart : ArePartsApart rs) (part : r.part ≡ old.part) (others : new ≡ set j old.part (part_at new old.part)) where
    abbrev ch : Changes j new rs k old r
    ch = record { there = h.there; read = h.read; part = part; others = others }

    pub changed-apart : ArePartsApart (set rs k r)
    changed-apart = apart-set j new rs k old r ch apart

    pub changed-stands : (f : Point → Point) → ((p : Point) → Stands j old p → Stands new r (f p)) → AreStanding new (set rs k r) (changed t f ps)
    changed-stands f g =
        let s = found-point in
        subst (AreStanding new (set rs k r)) (sym (h.first.change f s.point ∙ ap (λ x. set ps k (f x)) (s.is s.point)))
        (standing-set j new rs k old r ch ps (f s.point) apart (g s.point s.stands) h.standing)

    pub same-stands : ((p : Point) → Stands j old p → Stands new r p) → AreStanding new (set rs k r) ps
    same-stands g =
        let s = found-point in
        subst (AreStanding new (set rs k r)) (ap (set ps k) (sym (s.is s.point)) ∙ set-get_or ps k s.point)
        (standing-set j new rs k old r ch ps s.point apart (g s.point s.stands) h.standing)
