-- Residents on their own banks, and the parts of a joined bank that is made anew (own).
use Rattle.std.specs.Prelude.{◌≡◌, ℕ, ◌<◌, List, map, length, slice_index_or, slice_set}
use Rattle.std.specs.Arc.{arc_value}
use Rattle.ten_core.specs.cell_form.specs.Views.{bank_of}
use Rattle.fab_join.specs.Parts.{PartData, part_at, with_bank}
use Rattle.ten_core.specs.Tenants.{table_in}
use Rattle.fab_model.specs.ten_parcel.specs.declared.tenant.Tenant.{Tenant}
use Rattle.fab_model.specs.Points.{Point}
use Rattle.fab_core.specs.declared.resident.Resident.{Resident}
use Rattle.fab_core.specs.Standing.{IsPoint}

-- with its own bank a tenant stands for a point
abbrev pub IsOn : Tenant → Point → Type 0
IsOn t p = IsPoint t.shell (bank_of t.bank) p

pub record HasPoint (t : Tenant) : Type 0 where
  pub at : Point
  pub point : IsOn t at

abbrev pub tenants_of : List Resident → List Tenant
tenants_of rs = map (λ r. r.tenant) rs

-- each with its own bank, the residents stand for points
pub record AreAlone (rs : List Resident) (ps : List Point) : Type 0 where
  pub many : length rs ≡ length ps
  pub each : (k : ℕ) (r : Resident) (p : Point) → k < length rs → IsOn (slice_index_or rs k r).tenant (slice_index_or ps k p)

-- a resident's own bank and what its part holds have changed places
pub record IsSwapped (j : List PartData) (r : Resident) (k : List PartData) (s : Resident) : Type 0 where
  pub shell : s.tenant.shell ≡ r.tenant.shell
  pub part : s.part ≡ r.part
  pub own : bank_of s.tenant.bank ≡ (part_at j r.part).bank
  pub parts : k ≡ slice_set j r.part (with_bank (part_at j r.part) (bank_of r.tenant.bank))

-- ---- a joined bank made anew

-- the part of a tenant: the states and the ports of its image, and a copy of its bank
abbrev pub part_for : Tenant → PartData
part_for t = record {
  table = table_in t.shell.engine;
  ports = (arc_value t.shell.engine.origin).image.ports.ports;
  bank = bank_of t.bank;
}

-- the parts have the residents' places
abbrev pub AreNumbered : List Resident → Type 0
AreNumbered rs = (k : ℕ) (r : Resident) → k < length rs → (slice_index_or rs k r).part ≡ k
