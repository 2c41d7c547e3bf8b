-- Residents whose parts get the numbers of their places.
use Rattle.std.proofs.Common.{◌≡◌, ℕ, ◌+◌, ◌<◌, List, [], ◌∷◌, ◌++◌, length, set, get_or, map, take, arith, ap, sym, ◌∙◌, subst, inl, inr}
use Rattle.std.specs.List.{All}
use Rattle.std.proofs.lemmas.List.{get_or-map, get_or-set_same, get_or-set_other, get_or_push, get_or_append_left, length-map, length_push, map-set, map_push, map_more, set-get_or}
use Rattle.std.proofs.lemmas.Bool.{cases_eq}
use Rattle.fab_join.specs.Parts.{PartData}
use Rattle.fab_model.specs.ten_parcel.specs.declared.tenant.Tenant.{Tenant}
use Rattle.fab_core.specs.declared.resident.Resident.{Resident}
use Rattle.fab_core.specs.Alone.{part_for, tenants_of, AreNumbered, HasPoint}

pub tenants_set : (rs : List Resident) (i : ℕ) (d new : Resident) → i < length rs → new.tenant ≡ (get_or rs i d).tenant → tenants_of (set rs i new) ≡ tenants_of rs
tenants_set rs i d new lt e =
    map-set (λ (r : Resident). r.tenant) rs i new
    ∙ ap (set (tenants_of rs) i) (e ∙ sym (get_or-map (λ (r : Resident). r.tenant) rs i d d.tenant lt))
    ∙ set-get_or (tenants_of rs) i d.tenant

pub numbers_set : (rs : List Resident) (i : ℕ) (new : Resident) → i < length rs → new.part ≡ i → ((k : ℕ) (r : Resident) → k < i → (get_or rs k r).part ≡ k) →
    (k : ℕ) (r : Resident) → k < i + 1 → (get_or (set rs i new) k r).part ≡ k
numbers_set rs i new lt e h k r below = elim (cases_eq k i) [
  | inl same ↦ ap (λ (n : ℕ). (get_or (set rs i new) n r).part) same ∙ ap (λ (s : Resident). s.part) (get_or-set_same rs i new r lt) ∙ e ∙ sym same
  | inr ne ↦ ap (λ (s : Resident). s.part) (get_or-set_other rs i k new r ne) ∙ h k r (omega (arith, below, ne))
]

pub numbers_push : (rs : List Resident) (new : Resident) → new.part ≡ length rs → AreNumbered rs → AreNumbered (rs ++ new ∷ [])
numbers_push rs new e h k r lt =
    let many = length_push rs new in
    elim (cases_eq k (length rs)) [
      | inl same ↦ ap (λ (s : Resident). s.part) (get_or_push rs new r k (sym same)) ∙ e ∙ sym same
      | inr ne ↦
          let below : k < length rs = omega (arith, lt, many, ne) in
          ap (λ (s : Resident). s.part) (get_or_append_left rs (new ∷ []) r k below) ∙ h k r below
    ]

pub tenants_push : (rs : List Resident) (new : Resident) → tenants_of (rs ++ new ∷ []) ≡ tenants_of rs ++ new.tenant ∷ []
tenants_push rs new = map_push (λ (r : Resident). r.tenant) rs new

pub point_there : (rs : List Resident) (i : ℕ) (r : Resident) → i < length rs → r ≡ get_or rs i r → All HasPoint (tenants_of rs) → HasPoint r.tenant
point_there rs i r lt read h =
    let n = length-map rs (λ (s : Resident). s.tenant) in
    let at : get_or (tenants_of rs) i r.tenant ≡ r.tenant = get_or-map (λ (s : Resident). s.tenant) rs i r r.tenant lt ∙ ap (λ (s : Resident). s.tenant) (sym read) in
    subst (λ (t : Tenant). HasPoint t) at (h i r.tenant (omega (arith, n, lt)))

pub parts_more : (rs : List Resident) (i : ℕ) (r : Resident) (j k : List PartData) → i < length rs → r ≡ get_or rs i r → j ≡ map part_for (take i (tenants_of rs)) → k ≡ j ++ part_for r.tenant ∷ [] →
    k ≡ map part_for (take (i + 1) (tenants_of rs))
parts_more rs i r j k lt read before e =
    let n = length-map rs (λ (s : Resident). s.tenant) in
    let at : get_or (tenants_of rs) i r.tenant ≡ r.tenant = get_or-map (λ (s : Resident). s.tenant) rs i r r.tenant lt ∙ ap (λ (s : Resident). s.tenant) (sym read) in
    e ∙ ap (λ (x : List PartData). x ++ part_for r.tenant ∷ []) before
    ∙ ap (λ (t : Tenant). map part_for (take i (tenants_of rs)) ++ part_for t ∷ []) (sym at)
    ∙ sym (map_more part_for (tenants_of rs) i r.tenant (omega (arith, n, lt)))
