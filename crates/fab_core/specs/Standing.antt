-- What it means that a fabric's core stands for the points of its tenants (own).
use Rattle.std.specs.Prelude.{◌≡◌, ℕ, ◌<◌, true, List, [], ◌∷◌, ◌++◌, length, ⊤}
use Rattle.std.specs.Arc.{arc_value}
use Rattle.std.specs.List.{AllPairs}
use Rattle.ten_core.specs.cell_form.specs.Data.{BankData}
use Rattle.ten_core.specs.cell_form.specs.Sound.{shape_of}
use Rattle.ten_core.specs.cell_form.specs.Views.{bank_of}
use Rattle.fab_join.specs.Parts.{PartData, part_at}
use Rattle.ten_core.specs.Tenants.{table_in}
use Rattle.fab_model.specs.ten_parcel.specs.declared.parcel.Parcel.{Parcel}
use Rattle.fab_model.specs.ten_parcel.specs.declared.parcel.Parcel.TheVariants as parcel
use Rattle.fab_model.specs.ten_parcel.specs.declared.tenant.Tenant.{Tenant}
use Rattle.ten_shell.specs.declared.shell.Shell.{Shell}
use Rattle.ten_shell.specs.Shells.{flat_in, free_in, is_at_boundary, left_in, StandsFor}
use Rattle.fab_model.specs.Points.{Point, rests}
use Rattle.fab_model.specs.Fabrics.{Fabric, total, within, AreOnce}
use Rattle.fab_core.specs.declared.cores.FabCore.{FabCore}
use Rattle.fab_core.specs.declared.resident.Resident.{Resident}

-- ---- tenants

-- with this bank the shell stands for a point
pub record IsPoint (s : Shell) (b : BankData) (p : Point) : Type 0 where
  pub number : s.number ≡ p.number
  pub origin : arc_value s.engine.origin ≡ p.origin
  pub stands : StandsFor s b p.acts p.stage
  pub left : is_at_boundary (flat_in s) p.stage ≡ true → left_in s ≡ p.left
  pub free : free_in s ≡ p.free
  pub moved : s.moved ≡ p.moved
  pub stopped : s.stopped ≡ p.stopped

-- a tenant at rest at a point
pub record IsAtRest (t : Tenant) (p : Point) : Type 0 where
  pub point : IsPoint t.shell (bank_of t.bank) p
  pub rests : rests p ≡ true

abbrev pub IsPointOf : Parcel → Point → Type 0
IsPointOf (parcel.Rests t) p = IsAtRest t p
IsPointOf (parcel.Over x) p = ⊥

-- ---- residents

-- a resident's part of the joined bank has the states of its image, and a bank of its shape
pub record HasPart (j : List PartData) (r : Resident) : Type 0 where
  pub there : r.part < length j
  pub table : (part_at j r.part).table ≡ table_in r.tenant.shell.engine
  pub shape : shape_of (bank_of r.tenant.bank) ≡ shape_of (part_at j r.part).bank

-- with its part of the joined bank a resident stands for a point
pub record Stands (j : List PartData) (r : Resident) (p : Point) : Type 0 where
  pub part : HasPart j r
  pub point : IsPoint r.tenant.shell (part_at j r.part).bank p

abbrev pub AreStanding : List PartData → List Resident → List Point → Type 0
AreStanding j [] [] = ⊤
AreStanding j [] (p ∷ ps) = ⊥
AreStanding j (r ∷ rs) [] = ⊥
AreStanding j (r ∷ rs) (p ∷ ps) = Stands j r p × AreStanding j rs ps

-- no two residents have one part
abbrev pub ArePartsApart : List Resident → Type 0
ArePartsApart rs = AllPairs (λ r s. r.part < s.part) rs

-- ---- the line

abbrev pub AreWaiting : List Tenant → List Point → Type 0
AreWaiting [] [] = ⊤
AreWaiting [] (p ∷ ps) = ⊥
AreWaiting (t ∷ ts) [] = ⊥
AreWaiting (t ∷ ts) (p ∷ ps) = IsAtRest t p × AreWaiting ts ps

-- ---- cores

-- the core stands for a fabric: each resident with its part of the joined bank, and each tenant in line with its own
pub record IsFabric (x : FabCore) (f : Fabric) : Type 0 where
  pub capacity : x.capacity ≡ f.capacity
  pub used : x.used ≡ total f.residents
  pub fits : within (total f.residents) f.capacity ≡ true
  pub holding : x.holding ≡ f.holding
  pub apart : ArePartsApart x.residents.items
  -- each tenant is there once
  pub once : AreOnce (f.residents ++ f.line)
  pub residents : AreStanding x.joined x.residents.items f.residents
  pub line : AreWaiting x.line.items f.line
