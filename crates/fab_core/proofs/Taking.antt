-- A resident that is taken out.
use Rattle.std.proofs.Common.{◌≡◌, ◌≢◌, ℕ, ◌+◌, ◌-◌, ◌<◌, ◌≤◌, List, [], ◌∷◌, length, set, get_or, take, drop, arith, ap, sym, ◌∙◌, subst, suc, zero, inl, inr}
use Rattle.std.specs.Arc.{arc_value}
use Rattle.std.specs.List.{remove}
use Rattle.std.proofs.Math.ListN.{length-set}
use Rattle.std.proofs.lemmas.List.{get_or-set_other, get_or-take, get_or-drop, get_or_append_left, get_or-append_right, get_or_read, length-append, length-take-le, length-drop}
use Rattle.std.proofs.lemmas.Bool.{cases_lt}
use Rattle.vl_design.specs.declared.capacity.Cost.{Cost}
use Rattle.ten_core.specs.cell_form.specs.Data.{BankData}
use Rattle.ten_core.specs.cell_form.specs.Sound.{shape_of}
use Rattle.ten_core.specs.cell_form.specs.Views.{bank_of}
use Rattle.fab_join.specs.Parts.{PartData, no_part, part_at, with_bank}
use Rattle.fab_model.specs.ten_parcel.specs.declared.tenant.Tenant.{Tenant}
use Rattle.ten_shell.specs.declared.shell.Shell.{Shell}
use Rattle.fab_model.specs.Points.{cost_of, Point}
use Rattle.fab_model.specs.Fabrics.{plus, total, Fabric}
use Rattle.fab_core.specs.declared.cores.FabCore.{FabCore}
use Rattle.fab_core.specs.declared.resident.Resident.{Resident}
use Rattle.fab_core.specs.Alone.{IsOn, IsSwapped}
use Rattle.fab_core.specs.Standing.{ArePartsApart, AreStanding, AreWaiting, IsFabric, IsPoint, Stands}
use Rattle.fab_core.proofs.Once.{once_front}
use Rattle.fab_core.proofs.Costs.{cost_by, total-remove, within_lower, IsWithin}
use Rattle.fab_core.proofs.Lists.{standing_at, standing_from, standing_many}
use Rattle.fab_core.proofs.Resting.{cost_same}

module _ {X : Type 0} where
  pub removed_low : (xs : List X) (k i : ℕ) (d : X) → k < length xs → i < k → get_or (remove xs k) i d ≡ get_or xs i d
  removed_low xs k i d lt below =
      get_or_append_left (take k xs) (drop (suc k) xs) d i (omega (arith, length-take-le k xs (omega arith))) ∙ get_or-take k xs i d below

  pub removed_high : (xs : List X) (k i : ℕ) (d : X) → k < length xs → k ≤ i → get_or (remove xs k) i d ≡ get_or xs (suc i) d
  removed_high xs k i d lt above =
      get_or-append_right (take k xs) (drop (suc k) xs) k i d (length-take-le k xs (omega arith)) above
      ∙ get_or-drop (suc k) xs (i - k) d ∙ ap (λ n. get_or xs n d) (let e : suc k + (i - k) ≡ suc i = omega arith in e)

  pub removed_many : (xs : List X) (k : ℕ) → k < length xs → length (remove xs k) + 1 ≡ length xs
  removed_many xs k lt =
      let a = length-append (take k xs) (drop (suc k) xs) in
      let b = length-take-le k xs (omega arith) in
      let c = length-drop (suc k) xs in
      omega (arith, a, b, c)

pub standing_remove : (j : List PartData) (rs : List Resident) (ps : List Point) (k : ℕ) → AreStanding j rs ps → AreStanding j (remove rs k) (remove ps k)
standing_remove j [] [] zero h = tt
standing_remove j [] [] (suc k) h = tt
standing_remove j [] (p ∷ ps) k h = absurd h
standing_remove j (r ∷ rs) [] k h = absurd h
standing_remove j (r ∷ rs) (p ∷ ps) zero h = h.1
standing_remove j (r ∷ rs) (p ∷ ps) (suc k) h = (h.0, standing_remove j rs ps k h.1)

pub apart_remove : (rs : List Resident) (k : ℕ) → k < length rs → ArePartsApart rs → ArePartsApart (remove rs k)
apart_remove rs k lt apart a b d ab lb =
    let many = removed_many rs k lt in
    elim (cases_lt b k) [
      | inl low ↦
          let x = ap (λ (r : Resident). r.part) (removed_low rs k a d lt (omega arith)) in
          let y = ap (λ (r : Resident). r.part) (removed_low rs k b d lt low) in
          let z = apart a b d ab (omega arith) in
          omega (arith, x, y, z)
      | inr high ↦ elim (cases_lt a k) [
        | inl low ↦
            let x = ap (λ (r : Resident). r.part) (removed_low rs k a d lt low) in
            let y = ap (λ (r : Resident). r.part) (removed_high rs k b d lt high) in
            let z = apart a (suc b) d (omega arith) (omega (arith, many, lb)) in
            omega (arith, x, y, z)
        | inr above ↦
            let x = ap (λ (r : Resident). r.part) (removed_high rs k a d lt above) in
            let y = ap (λ (r : Resident). r.part) (removed_high rs k b d lt high) in
            let z = apart (suc a) (suc b) d (omega arith) (omega (arith, many, lb)) in
            omega (arith, x, y, z)
      ]
    ]

others_differ : (rs : List Resident) (k i : ℕ) (d : Resident) → k < length rs → ArePartsApart rs → i < length (remove rs k) → (get_or (remove rs k) i d).part ≢ (get_or rs k d).part
others_differ rs k i d lt apart li eq =
    let many = removed_many rs k lt in
    elim (cases_lt i k) [
      | inl low ↦
          let x = ap (λ (r : Resident). r.part) (removed_low rs k i d lt low) in
          let z = apart i k d low lt in
          omega (arith, x, z, eq)
      | inr high ↦
          let x = ap (λ (r : Resident). r.part) (removed_high rs k i d lt high) in
          let z = apart k (suc i) d (omega arith) (omega (arith, many, li)) in
          omega (arith, x, z, eq)
    ]

abbrev HasShape : Resident → PartData → Type 0
HasShape r y = shape_of (bank_of r.tenant.bank) ≡ shape_of y.bank

-- a part has changed that none of the residents has
pub standing_kept : (j m : List PartData) (rs : List Resident) (ps : List Point) (q : ℕ) (x : PartData) → m ≡ set j q x → ((i : ℕ) (d : Resident) → i < length rs → (get_or rs i d).part ≢ q) →
    AreStanding j rs ps → AreStanding m rs ps
standing_kept j m rs ps q x e differ h = standing_from m rs ps (standing_many j rs ps h) (λ i r p lt.
    let stood = standing_at j rs ps i r p h lt in
    let here : part_at m (get_or rs i r).part ≡ part_at j (get_or rs i r).part = ap (λ (y : List PartData). part_at y (get_or rs i r).part) e ∙ get_or-set_other j q (get_or rs i r).part x no_part (differ i r lt) in
    let long : length m ≡ length j = ap length e ∙ length-set j q x in
    record {
      part = record {
        there = let there = stood.part.there in omega (arith, long, there);
        table = ap (λ (y : PartData). y.table) here ∙ stood.part.table;
        shape = subst (λ (y : PartData). HasShape (get_or rs i r) y) (sym here) stood.part.shape;
      };
      point = subst (λ (y : PartData). IsPoint (get_or rs i r).tenant.shell y.bank (get_or ps i p)) (sym here) stood.point;
    })

pub swapped_on : (j m : List PartData) (r s : Resident) (p : Point) → IsSwapped j r m s → Stands j r p → IsOn s.tenant p
swapped_on j m r s p w h =
    subst (λ (b : BankData). IsPoint s.tenant.shell b p) (sym w.own) (subst (λ (x : Shell). IsPoint x (part_at j r.part).bank p) (sym w.shell) h.point)

-- a core without one of its residents
pub record IsWithout (x : FabCore) (k : ℕ) (r s : Resident) (y : FabCore) : Type 0 where
  pub read : r ≡ get_or x.residents.items k r
  pub swapped : IsSwapped x.joined r y.joined s
  pub capacity : y.capacity ≡ x.capacity
  pub regs : y.used.regs ≡ x.used.regs - (arc_value r.tenant.shell.engine.origin).image.cost.regs
  pub cells : y.used.cells ≡ x.used.cells - (arc_value r.tenant.shell.engine.origin).image.cost.cells
  pub mem : y.used.mem ≡ x.used.mem - (arc_value r.tenant.shell.engine.origin).image.cost.mem
  pub holding : y.holding ≡ x.holding
  pub residents : y.residents.items ≡ remove x.residents.items k
  pub line : y.line.items ≡ x.line.items

module _ (x : FabCore) (f : Fabric) (k : ℕ) (r : Resident) (h : IsFabric x f) (lt : k < length f.residents) (read : r ≡ get_or x.residents.items k r) where
  within_items : k < length x.residents.items
  within_items = let many = standing_many x.joined x.residents.items f.residents h.residents in omega (arith, many, lt)

  pub stood : (p : Point) → Stands x.joined r (get_or f.residents k p)
  stood p = subst (λ (s : Resident). Stands x.joined s (get_or f.residents k p)) (sym read) (standing_at x.joined x.residents.items f.residents k r p h.residents within_items)

  -- its cost is part of what is used
  pub record IsPartOf (c : Cost) (rest : Cost) : Type 0 where
    pub regs : x.used.regs ≡ c.regs + rest.regs
    pub cells : x.used.cells ≡ c.cells + rest.cells
    pub mem : x.used.mem ≡ c.mem + rest.mem

  pub cost_there : Point → IsPartOf (arc_value r.tenant.shell.engine.origin).image.cost (total (remove f.residents k))
  cost_there p =
      let cost : (arc_value r.tenant.shell.engine.origin).image.cost ≡ cost_of (get_or f.residents k p) = cost_same r.tenant.shell (part_at x.joined r.part).bank (get_or f.residents k p) (stood p).point in
      let all : x.used ≡ plus (arc_value r.tenant.shell.engine.origin).image.cost (total (remove f.residents k)) =
      h.used ∙ sym (total-remove f.residents k p lt) ∙ ap (λ (c : Cost). plus c (total (remove f.residents k))) (sym cost) in
      record { regs = ap (λ (c : Cost). c.regs) all; cells = ap (λ (c : Cost). c.cells) all; mem = ap (λ (c : Cost). c.mem) all }

pub without_fabric : (x y : FabCore) (f : Fabric) (k : ℕ) (r s : Resident) (p : Point) → IsFabric x f → k < length f.residents → IsWithout x k r s y → IsFabric y (record f { residents = remove f.residents k })
without_fabric x y f k r s p h lt w =
    let rs = x.residents.items in
    let cost = (arc_value r.tenant.shell.engine.origin).image.cost in
    let at = cost_there x f k r h lt w.read p in
    let within_rs : k < length rs = let many = standing_many x.joined rs f.residents h.residents in omega (arith, many, lt) in
    let e0 = at.regs in
    let e1 = at.cells in
    let e2 = at.mem in
    let u0 = w.regs in
    let u1 = w.cells in
    let u2 = w.mem in
    let used : y.used ≡ total (remove f.residents k) = cost_by y.used (total (remove f.residents k)) (omega (arith, e0, u0)) (omega (arith, e1, u1)) (omega (arith, e2, u2)) in
    let v0 = ap (λ (c : Cost). c.regs) h.used in
    let v1 = ap (λ (c : Cost). c.cells) h.used in
    let v2 = ap (λ (c : Cost). c.mem) h.used in
    let less : IsWithin (total (remove f.residents k)) (total f.residents) = record { regs = omega (arith, e0, v0); cells = omega (arith, e1, v1); mem = omega (arith, e2, v2) } in
    let others : (i : ℕ) (d : Resident) → i < length (remove rs k) → (get_or (remove rs k) i d).part ≢ r.part = λ i d li.
    subst (λ (q : Resident). (get_or (remove rs k) i d).part ≢ q.part) (sym (get_or_read rs k r within_rs w.read d)) (others_differ rs k i d within_rs h.apart li) in
    record {
      capacity = w.capacity ∙ h.capacity;
      used = used;
      fits = within_lower (total (remove f.residents k)) (total f.residents) f.capacity less h.fits;
      holding = w.holding ∙ h.holding;
      apart = subst (λ (qs : List Resident). ArePartsApart qs) (sym w.residents) (apart_remove rs k within_rs h.apart);
      once = once_front f.residents f.line k h.once;
      residents = subst (λ (qs : List Resident). AreStanding y.joined qs (remove f.residents k)) (sym w.residents)
          (standing_kept x.joined y.joined (remove rs k) (remove f.residents k) r.part (with_bank (part_at x.joined r.part) (bank_of r.tenant.bank)) w.swapped.parts others (standing_remove x.joined rs f.residents k h.residents));
      line = subst (λ (ts : List Tenant). AreWaiting ts f.line) (sym w.line) h.line;
    }
