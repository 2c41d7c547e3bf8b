-- Residents and those in line, and the points that they stand for; one resident and its part change.
use Rattle.std.proofs.Common.{◌≡◌, ◌≢◌, ℕ, zero, suc, ◌<◌, inl, inr, Option, Some, List, [], ◌∷◌, length, set, get_or, refl, sym, ap, ◌∙◌, arith, subst}
use Rattle.std.specs.Prelude.{slice_get}
use Rattle.std.proofs.lemmas.Bool.{cases_eq, cases_lt}
use Rattle.std.proofs.lemmas.List.{get_or-set_same, get_or-set_other, get_or_default, length-set}
use Rattle.ten_core.specs.cell_form.specs.Sound.{shape_of}
use Rattle.fab_join.specs.Parts.{PartData, no_part, part_at}
use Rattle.fab_model.specs.ten_parcel.specs.declared.tenant.Tenant.{Tenant}
use Rattle.fab_model.specs.Points.{Point}
use Rattle.fab_core.specs.declared.resident.Resident.{Resident}
use Rattle.fab_core.specs.Standing.{ArePartsApart, AreStanding, AreWaiting, IsAtRest, IsPoint, Stands}

-- ---- residents one by one

pub standing-long : (j : List PartData) (rs : List Resident) (ps : List Point) → AreStanding j rs ps → length rs ≡ length ps
standing-long j [] [] h = refl
standing-long j [] (p ∷ ps) h = absurd h
standing-long j (r ∷ rs) [] h = absurd h
standing-long j (r ∷ rs) (p ∷ ps) h = ap suc (standing-long j rs ps h.1)

pub standing-at : (j : List PartData) (rs : List Resident) (ps : List Point) (k : ℕ) (r : Resident) (p : Point) → k < length rs → AreStanding j rs ps → Stands j (get_or rs k r) (get_or ps k p)
standing-at j [] ps k r p lt h = let z : ⊥ = omega (arith, lt) in absurd z
standing-at j (x ∷ rs) [] k r p lt h = absurd h
standing-at j (x ∷ rs) (y ∷ ps) zero r p lt h = h.0
standing-at j (x ∷ rs) (y ∷ ps) (suc k) r p lt h = standing-at j rs ps k r p (omega (arith, lt)) h.1

-- each stands for some point, which is that of its place
pub record SomePoint (j : List PartData) (r : Resident) (ps : List Point) (k : ℕ) : Type 0 where
  pub point : Point
  pub stands : Stands j r point
  pub there : k < length ps
  pub is : (d : Point) → get_or ps k d ≡ point

pub some-point : (j : List PartData) (rs : List Resident) (ps : List Point) (k : ℕ) (r : Resident) → k < length rs → r ≡ get_or rs k r → AreStanding j rs ps → SomePoint j r ps k
some-point j [] ps k r lt e h = let z : ⊥ = omega (arith, lt) in absurd z
some-point j (x ∷ rs) [] k r lt e h = absurd h
some-point j (x ∷ rs) (y ∷ ps) zero r lt e h = record { point = y; stands = subst (λ z. Stands j z y) (sym e) h.0; there = omega arith; is = λ d. refl }
some-point j (x ∷ rs) (y ∷ ps) (suc k) r lt e h =
    let s = some-point j rs ps k r (omega (arith, lt)) e h.1 in
    record { point = s.point; stands = s.stands; there = omega (arith, s.there); is = s.is }

pub standing-each : (j : List PartData) (rs : List Resident) (ps : List Point) (r : Resident) (p : Point) → length rs ≡ length ps → ((k : ℕ) → k < length rs → Stands j (get_or rs k r) (get_or ps k p)) → AreStanding j rs ps
standing-each j [] [] r p e h = tt
standing-each j [] (y ∷ ps) r p e h = let z : ⊥ = omega (arith, e) in absurd z
standing-each j (x ∷ rs) [] r p e h = let z : ⊥ = omega (arith, e) in absurd z
standing-each j (x ∷ rs) (y ∷ ps) r p e h = (h 0 (omega arith), standing-each j rs ps r p (omega (arith, e)) (λ k lt. h (suc k) (omega (arith, lt))))

pub some-equal : {X : Type 0} (x y : X) → ◌≡◌ {A = Option X} (Some x) (Some y) → x ≡ y
some-equal x y e = cc

pub point-got : (j : List PartData) (rs : List Resident) (ps : List Point) (k : ℕ) (r : Resident) (p : Point) → ◌≡◌ {A = Option Resident} (Some r) (slice_get rs k) → AreStanding j rs ps → slice_get ps k ≡ Some p → Stands j r p
point-got j [] ps k r p e h is = let z : ⊥ = cc in absurd z
point-got j (x ∷ rs) [] k r p e h is = absurd h
point-got j (x ∷ rs) (y ∷ ps) zero r p e h is = subst (λ z. Stands j z p) (sym (some-equal r x e)) (subst (λ z. Stands j x z) (some-equal y p is) h.0)
point-got j (x ∷ rs) (y ∷ ps) (suc k) r p e h is = point-got j rs ps k r p e h.1 is

-- ---- the line one by one

pub waiting-long : (ts : List Tenant) (ps : List Point) → AreWaiting ts ps → length ts ≡ length ps
waiting-long [] [] h = refl
waiting-long [] (p ∷ ps) h = absurd h
waiting-long (t ∷ ts) [] h = absurd h
waiting-long (t ∷ ts) (p ∷ ps) h = ap suc (waiting-long ts ps h.1)

pub waiter-got : (ts : List Tenant) (ps : List Point) (k : ℕ) (t : Tenant) (p : Point) → ◌≡◌ {A = Option Tenant} (Some t) (slice_get ts k) → AreWaiting ts ps → slice_get ps k ≡ Some p → IsAtRest t p
waiter-got [] ps k t p e h is = let z : ⊥ = cc in absurd z
waiter-got (x ∷ ts) [] k t p e h is = absurd h
waiter-got (x ∷ ts) (y ∷ ps) zero t p e h is = subst (λ z. IsAtRest z p) (sym (some-equal t x e)) (subst (λ z. IsAtRest x z) (some-equal y p is) h.0)
waiter-got (x ∷ ts) (y ∷ ps) (suc k) t p e h is = waiter-got ts ps k t p e h.1 is

-- ---- another part changes
pub kept-apart : (j new : List PartData) (k : ℕ) (r : Resident) (p : Point) → new ≡ set j k (part_at new k) → r.part ≢ k → Stands j r p → Stands new r p
kept-apart j new k r p e ne h =
    let here : part_at new r.part ≡ part_at j r.part = ap (λ ps. part_at ps r.part) e ∙ get_or-set_other j k r.part (part_at new k) no_part ne in
    let size = ap length e ∙ length-set j k (part_at new k) in
    record {
      part = record {
        there = omega (arith, size, h.part.there);
        table = ap (λ x. x.table) here ∙ h.part.table;
        shape = h.part.shape ∙ sym (ap (λ x. shape_of x.bank) here);
      };
      point = subst (λ x. IsPoint r.tenant.shell x.bank p) (sym here) h.point;
    }

-- ---- one resident and its part change

-- a resident of a number in place of another one, and its part's change alone
pub record Changes (j new : List PartData) (rs : List Resident) (i : ℕ) (old r : Resident) : Type 0 where
  pub there : i < length rs
  pub read : old ≡ get_or rs i old
  pub part : r.part ≡ old.part
  pub others : new ≡ set j old.part (part_at new old.part)

module _ (j new : List PartData) (rs : List Resident) (i : ℕ) (old r : Resident) (c : Changes j new rs i old r) where
  old-at : (d : Resident) → get_or rs i d ≡ old
  old-at d = get_or_default rs i d old c.there ∙ sym c.read

  part-same : (k : ℕ) (d : Resident) → (get_or (set rs i r) k d).part ≡ (get_or rs k d).part
  part-same k d =
      elim (cases_eq k i) [
        | inl e ↦ ap (λ n. (get_or (set rs i r) n d).part) e ∙ ap (λ x. x.part) (get_or-set_same rs i r d c.there) ∙ c.part ∙ ap (λ x. x.part) (sym (old-at d)) ∙ ap (λ n. (get_or rs n d).part) (sym e)
        | inr ne ↦ ap (λ x. x.part) (get_or-set_other rs i k r d ne)
      ]

  pub apart-set : ArePartsApart rs → ArePartsApart (set rs i r)
  apart-set h = λ a b d ab lb.
      let long = length-set rs i r in
      let x = h a b d ab (omega (arith, long, lb)) in
      let p = part-same a d in
      let q = part-same b d in
      omega (arith, x, p, q)

  differs : ArePartsApart rs → (k : ℕ) (d : Resident) → k < length rs → k ≢ i → (get_or rs k d).part ≢ old.part
  differs h k d lt ne = λ same.
      let at = ap (λ x. x.part) (old-at d) in
      elim (cases_lt k i) [
        | inl below ↦ let a = h k i d below c.there in omega (arith, a, at, same)
        | inr above ↦ let a = h i k d (omega (arith, above, ne)) lt in omega (arith, a, at, same)
      ]

  -- the others stand as they stood
  pub standing-set : (ps : List Point) (p : Point) → ArePartsApart rs → Stands new r p → AreStanding j rs ps → AreStanding new (set rs i r) (set ps i p)
  standing-set ps p apart stands h =
      let long = standing-long j rs ps h in
      let size = length-set rs i r in
      let there : i < length ps = let t = c.there in omega (arith, long, t) in
      standing-each new (set rs i r) (set ps i p) r p (size ∙ long ∙ sym (length-set ps i p)) (λ k lk.
      elim (cases_eq k i) [
        | inl e ↦
            let x : get_or (set rs i r) k r ≡ r = ap (λ n. get_or (set rs i r) n r) e ∙ get_or-set_same rs i r r c.there in
            let y : get_or (set ps i p) k p ≡ p = ap (λ n. get_or (set ps i p) n p) e ∙ get_or-set_same ps i p p there in
            subst (λ z. Stands new z (get_or (set ps i p) k p)) (sym x) (subst (λ z. Stands new r z) (sym y) stands)
        | inr ne ↦
            let lt : k < length rs = omega (arith, size, lk) in
            let x : get_or (set rs i r) k r ≡ get_or rs k r = get_or-set_other rs i k r r ne in
            let y : get_or (set ps i p) k p ≡ get_or ps k p = get_or-set_other ps i k p p ne in
            subst (λ z. Stands new z (get_or (set ps i p) k p)) (sym x)
            (subst (λ z. Stands new (get_or rs k r) z) (sym y)
            (kept-apart j new old.part (get_or rs k r) (get_or ps k p) c.others (differs apart k r lt ne) (standing-at j rs ps k r p lt h)))
      ])
