-- Tenants at the ends of their runs alone, and images that can be run (own).
use Rattle.std.specs.Prelude.{◌≡◌, ℕ, ◌≤◌, false, List, []}
use Rattle.ten_core.specs.vl_base.specs.Files.{IsFileSet}
use Rattle.ten_core.specs.vl_design.specs.declared.design.End.{End}
use Rattle.ten_core.specs.vl_design.specs.Alone.{Ends, first_tick}
use Rattle.ten_core.specs.vl_design.specs.Queue.{Queue}
use Rattle.ten_core.specs.declared.origin.Origin.{Origin}
use Rattle.ten_core.specs.Tenants.{origin_of, IsImage}
use Rattle.ten_make.specs.Designs.{IsTenantDesign}
use Rattle.ten_core.specs.Begins.{flat_in, StartFits}
use Rattle.ten_core.specs.ten_plan.specs.Plans.{IsPlan}
use Rattle.ten_parcel.specs.declared.parcel.Parcel.{Parcel}
use Rattle.ten_parcel.specs.Parcels.{free_of, is_stopped, number_of, origin_in, run_of, ticks_of, IsParcel}

-- the image is that of a tenant's design; the plan has errands in order, the files are a set, and what the run is resumed from, if it is,
-- fits the design and the files, at a tick within the budget
pub record IsRunnable (x : Origin) : Type 0 where
  pub order : List ℕ
  pub image : IsImage (flat_in x) order x.image
  pub tenant : IsTenantDesign (flat_in x) order
  pub start : StartFits (flat_in x) x.files x.start
  pub plan : IsPlan (origin_of x).plan
  pub within : first_tick (origin_of x).resume ≤ (origin_of x).plan.budget
  pub files : IsFileSet x.files

-- the tenant of this number and origin, whose run alone has ended
pub record IsRunAlone (n : ℕ) (x : Origin) (p : Parcel) : Type 0 where
  pub parcel : IsParcel p
  pub number : number_of p ≡ n
  pub origin : origin_in p ≡ x
  pub free : free_of p ≡ []
  pub stopped : is_stopped p ≡ false
  pub end : End
  pub last : Queue
  pub ends : Ends (run_of p) (ticks_of p) end last
