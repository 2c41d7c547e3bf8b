-- What a source is built into (own).
use Rattle.std.specs.Prelude.{◌≡◌, ℕ, List, ⊤, Result, Ok, Err}
use Rattle.vl_loops.specs.vl_design.specs.Costs.{saturated_cost}
use Rattle.vl_loops.specs.vl_design.specs.declared.capacity.Cost.{Cost}
use Rattle.vl_loops.specs.vl_design.specs.Alone.{Origin}
use Rattle.vl_loops.specs.vl_design.specs.Cost.{cost}
use Rattle.vl_loops.specs.vl_design.specs.Observed.{IsSameRun}
use Rattle.vl_loops.specs.vl_design.specs.Syntax.{Flat}
use Rattle.vl_loops.specs.vl_design.specs.Trees.{flat_of}
use Rattle.vl_front.specs.declared.fault.BuildError.{BuildError}
use Rattle.vl_front.specs.declared.fault.BuildError.TheVariants.{Refused, Memory}
use Rattle.vl_front.specs.Sources.{StandsFor, IsRefusal}
use Rattle.ten_make.specs.ten_core.specs.declared.image.Image.{Image}
use Rattle.ten_make.specs.ten_core.specs.Tenants.{IsImage}
use Rattle.ten_make.specs.Designs.{IsTenantDesign}
use Rattle.ten_make.specs.Within.{IsWithinCost}
use Rattle.elab_laws.specs.ten_plan.specs.Written.{HasRows}
use Rattle.sub_runs.specs.Again.{CanGoOn}

-- over all files, with all plans and from all starts the run alone of one design is that of another; their signals and their costs are the same
pub record RunsAs (d e : Flat) : Type 0 where
  pub same : (o : Origin) → o.flat ≡ e → IsSameRun o (record o { flat = d })
  pub rows : d.rows ≡ e.rows
  pub cost : cost d ≡ cost e

-- the image is that of a design that runs as the one that the text stands for, and it keeps within that design's cost; names of what its snapshots keep have at most 255 bytes
pub record IsImageOf (text : List ℕ) (image : Image) : Type 0 where
  pub design : Flat
  pub stands : StandsFor text design
  pub runs : RunsAs (flat_of image.design) design
  pub order : List ℕ
  pub image_is : IsImage (flat_of image.design) order image
  pub tenant : IsTenantDesign (flat_of image.design) order
  pub names : HasRows (flat_of image.design).rows
  pub within : IsWithinCost (flat_of image.design) image
  -- its runs can be resumed from their snapshots
  pub goes_on : CanGoOn (flat_of image.design) order

-- this is the cost of the design that a text stands for, in numbers of 64 bits
pub record HasCost (text : List ℕ) (c : Cost) : Type 0 where
  pub design : Flat
  pub stands : StandsFor text design
  pub is : c ≡ saturated_cost (cost design)

-- what comes of a text: its image, or where and for what it is refused
abbrev pub IsBuild : List ℕ → Result Image BuildError → Type 0
IsBuild text (Ok image) = IsImageOf text image
IsBuild text (Err (Refused place kind)) = IsRefusal text place kind
IsBuild text (Err Memory) = ⊤
