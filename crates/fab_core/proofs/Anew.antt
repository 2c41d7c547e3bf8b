-- A joined bank made anew, and the tenants that stand on it.
use Rattle.std.proofs.Common.{◌≡◌, ℕ, ◌+◌, ◌-◌, ◌<◌, List, [], ◌∷◌, ◌++◌, length, get_or, map, take, drop, arith, refl, ap, sym, ◌∙◌, subst, true, false, inl, inr}
use Rattle.std.specs.List.{All}
use Rattle.std.proofs.lemmas.List.{get_or_append_left, get_or-append_right, get_or-map, length-append, length-map}
use Rattle.std.proofs.lemmas.Bool.{cases_lt}
use Rattle.vl_design.specs.declared.capacity.Cost.{Cost}
use Rattle.ten_core.specs.cell_form.specs.Sound.{shape_of}
use Rattle.fab_join.specs.Parts.{PartData, no_part, part_at}
use Rattle.fab_model.specs.ten_parcel.specs.declared.tenant.Tenant.{Tenant}
use Rattle.fab_model.specs.Points.{Point}
use Rattle.fab_model.specs.Fabrics.{joiners, joining, plus, rebuilt, total, within, Fabric, AreOnce}
use Rattle.fab_core.specs.declared.cores.FabCore.{FabCore}
use Rattle.fab_core.specs.declared.resident.Resident.{Resident}
use Rattle.fab_core.specs.Alone.{part_for, tenants_of, AreAlone, AreNumbered, HasPoint, IsOn}
use Rattle.fab_core.specs.Standing.{ArePartsApart, AreStanding, AreWaiting, IsFabric, IsPoint}
use Rattle.fab_core.proofs.Costs.{joined_within, total-append}
use Rattle.fab_core.proofs.Lists.{standing_from, waiting_at, waiting_drop, waiting_many, waiting_take}

-- ---- tenants that stand with their own banks

pub record AreOn (ts : List Tenant) (ps : List Point) : Type 0 where
  pub many : length ts ≡ length ps
  pub each : (k : ℕ) (t : Tenant) (p : Point) → k < length ts → IsOn (get_or ts k t) (get_or ps k p)

pub on-append : (ts us : List Tenant) (ps qs : List Point) → AreOn ts ps → AreOn us qs → AreOn (ts ++ us) (ps ++ qs)
on-append ts us ps qs h g =
    let m = h.many in
    let n = g.many in
    let a = length-append ts us in
    let b = length-append ps qs in
    record {
      many = omega (arith, m, n, a, b);
      each = λ k t p lt. elim (cases_lt k (length ts)) [
        | inl low ↦
            let x : get_or (ts ++ us) k t ≡ get_or ts k t = get_or_append_left ts us t k low in
            let y : get_or (ps ++ qs) k p ≡ get_or ps k p = get_or_append_left ps qs p k (omega (arith, low, m)) in
            subst (λ (r : Tenant). IsOn r (get_or (ps ++ qs) k p)) (sym x) (subst (λ (q : Point). IsOn (get_or ts k t) q) (sym y) (h.each k t p low))
        | inr high ↦
            let x : get_or (ts ++ us) k t ≡ get_or us (k - length ts) t = get_or-append_right ts us (length ts) k t refl high in
            let y : get_or (ps ++ qs) k p ≡ get_or qs (k - length ts) p = get_or-append_right ps qs (length ts) k p (sym m) high in
            subst (λ (r : Tenant). IsOn r (get_or (ps ++ qs) k p)) (sym x) (subst (λ (q : Point). IsOn (get_or us (k - length ts) t) q) (sym y) (g.each (k - length ts) t p (omega (arith, lt, a, high))))
      ];
    }

pub on_alone : (rs : List Resident) (ps : List Point) → AreAlone rs ps → AreOn (tenants_of rs) ps
on_alone [] ps h = record { many = h.many; each = λ k t p lt. absurd (omega arith) }
on_alone (r ∷ rs) ps h = record {
  many = let m = h.many in let n = length-map (r ∷ rs) (λ (s : Resident). s.tenant) in omega (arith, m, n);
  each = λ k t p lt.
      let n = length-map (r ∷ rs) (λ (s : Resident). s.tenant) in
      let within : k < length (r ∷ rs) = omega (arith, lt, n) in
      subst (λ (u : Tenant). IsOn u (get_or ps k p)) (sym (get_or-map (λ (s : Resident). s.tenant) (r ∷ rs) k r t within)) (h.each k r p within);
}

pub on_waiting : (ts : List Tenant) (ps : List Point) → AreWaiting ts ps → AreOn ts ps
on_waiting ts ps h = record { many = waiting_many ts ps h; each = λ k t p lt. (waiting_at ts ps k t p h lt).point }

pub points_on : (ts : List Tenant) (ps : List Point) → Point → AreOn ts ps → All HasPoint ts
points_on ts ps p h k t lt = record { at = get_or ps k p; point = h.each k t p lt }

-- all of some tenants have points, without any being named
pub points_none : (ts : List Tenant) → AreOn ts [] → All HasPoint ts
points_none ts h k t lt = let m = h.many in absurd (omega (arith, m, lt))

pub points_of : (ts : List Tenant) (ps : List Point) → AreOn ts ps → All HasPoint ts
points_of ts [] h = points_none ts h
points_of ts (p ∷ ps) h = points_on ts (p ∷ ps) p h

-- ---- residents with parts of their own, by the numbers of their places

pub numbered_apart : (rs : List Resident) → AreNumbered rs → ArePartsApart rs
numbered_apart rs h a b d ab lb =
    let x = h a d (omega arith) in
    let y = h b d lb in
    omega (arith, x, y, ab)

pub numbered_standing : (j : List PartData) (rs : List Resident) (ps : List Point) → AreNumbered rs → j ≡ map part_for (tenants_of rs) → AreOn (tenants_of rs) ps → AreStanding j rs ps
numbered_standing j rs ps numbers e h =
    let n = length-map rs (λ (s : Resident). s.tenant) in
    let m = h.many in
    standing_from j rs ps (omega (arith, n, m)) (λ k r p lt.
    let q = get_or rs k r in
    let tenant : get_or (tenants_of rs) k r.tenant ≡ q.tenant = get_or-map (λ (s : Resident). s.tenant) rs k r r.tenant lt in
    let within : k < length (tenants_of rs) = omega (arith, n, lt) in
    let here : part_at j q.part ≡ part_for q.tenant =
    ap (λ (i : ℕ). part_at j i) (numbers k r lt) ∙ ap (λ (x : List PartData). part_at x k) e
    ∙ get_or-map part_for (tenants_of rs) k r.tenant no_part within ∙ ap part_for tenant in
    let long : length j ≡ length (tenants_of rs) = ap length e ∙ length-map (tenants_of rs) part_for in
    record {
      part = record {
        there = let at = numbers k r lt in omega (arith, at, long, within);
        table = ap (λ (x : PartData). x.table) here;
        shape = ap (λ (x : PartData). shape_of x.bank) (sym here);
      };
      point = subst (λ (x : PartData). IsPoint q.tenant.shell x.bank (get_or ps k p)) (sym here) (subst (λ (t : Tenant). IsOn t (get_or ps k p)) tenant (h.each k r.tenant p within));
    })

-- ---- the fabric behind it

-- a core whose residents and joined bank were made anew, so many of its line with them
pub record IsAnew (x : FabCore) (rs : List Resident) (n : ℕ) (y : FabCore) : Type 0 where
  pub capacity : y.capacity ≡ x.capacity
  pub parts : y.joined ≡ map part_for (tenants_of rs ++ take n x.line.items)
  pub tenants : tenants_of y.residents.items ≡ tenants_of rs ++ take n x.line.items
  pub numbers : AreNumbered y.residents.items
  pub line : y.line.items ≡ drop n x.line.items
  pub holding : y.holding ≡ false

pub anew_fabric : (x y : FabCore) (f : Fabric) (rs : List Resident) (n : ℕ) → IsFabric x f → AreAlone rs f.residents → IsAnew x rs n y →
    n ≡ joiners x.capacity x.used f.line → y.used ≡ plus x.used (total (take n f.line)) → AreOnce ((rebuilt f).residents ++ (rebuilt f).line) → IsFabric y (rebuilt f)
anew_fabric x y f rs n h alone w many used once =
    let count : n ≡ joining f = many ∙ ap (λ (c : Cost). joiners c x.used f.line) h.capacity ∙ ap (λ (c : Cost). joiners f.capacity c f.line) h.used in
    let ps = f.residents ++ take n f.line in
    let on : AreOn (tenants_of y.residents.items) ps =
    subst (λ (ts : List Tenant). AreOn ts ps) (sym w.tenants)
    (on-append (tenants_of rs) (take n x.line.items) f.residents (take n f.line) (on_alone rs f.residents alone) (on_waiting (take n x.line.items) (take n f.line) (waiting_take n x.line.items f.line h.line))) in
    let all : plus (total f.residents) (total (take n f.line)) ≡ total ps = sym (total-append f.residents (take n f.line)) in
    let fits : within (total ps) f.capacity ≡ true =
    ap (λ (c : Cost). within c f.capacity) (sym all)
    ∙ ap (λ (k : ℕ). within (plus (total f.residents) (total (take k f.line))) f.capacity) count
    ∙ joined_within f.capacity (total f.residents) f.line h.fits in
    let made : IsFabric y (record f { residents = ps; line = drop n f.line; holding = false }) = record {
      capacity = w.capacity ∙ h.capacity;
      used = used ∙ ap (λ (c : Cost). plus c (total (take n f.line))) h.used ∙ all;
      fits = fits;
      holding = w.holding;
      apart = numbered_apart y.residents.items w.numbers;
      once = subst (λ (k : ℕ). AreOnce ((f.residents ++ take k f.line) ++ drop k f.line)) (sym count) once;
      residents = numbered_standing y.joined y.residents.items ps w.numbers (w.parts ∙ ap (map part_for) (sym w.tenants)) on;
      line = subst (λ (ts : List Tenant). AreWaiting ts (drop n f.line)) (sym w.line) (waiting_drop n x.line.items f.line h.line);
    } in
    subst (λ (k : ℕ). IsFabric y (record f { residents = f.residents ++ take k f.line; line = drop k f.line; holding = false })) count made

-- a core whose residents have changed places with their parts, and back again
pub record IsBack (x : FabCore) (y : FabCore) : Type 0 where
  pub capacity : y.capacity ≡ x.capacity
  pub used : y.used ≡ x.used
  pub holding : y.holding ≡ x.holding
  pub apart : ArePartsApart y.residents.items
  pub residents : (ps : List Point) → AreStanding x.joined x.residents.items ps → AreStanding y.joined y.residents.items ps
  pub line : y.line.items ≡ x.line.items
