-- Costs against fabrics, before images are made.
use Rattle.std.proofs.Common.{◌≡◌, ℕ, false, true, List, slice_get, Option, Some, None, refl, sym, ap, ◌∙◌, subst}
use Rattle.ten_core.specs.vl_design.specs.Costs.{saturated_cost}
use Rattle.ten_core.specs.vl_design.specs.declared.capacity.Cost.{Cost}
use Rattle.ten_core.specs.vl_design.specs.Cost as sums
use Rattle.ten_core.specs.vl_design.specs.Syntax.{Flat}
use Rattle.ten_core.specs.vl_design.specs.Trees.{flat_of}
use Rattle.vl_front.specs.Sources.{StandsFor}
use Rattle.host_files.specs.host_text.specs.declared.script.FabricLine.{FabricLine}
use Rattle.host_files.specs.host_text.specs.declared.script.TenantLine.{TenantLine}
use Rattle.ten_build.specs.Builds.{IsImageOf}
use Rattle.ten_core.specs.declared.image.Image.{Image}
use Rattle.host_files.specs.host_form.specs.Origins.{fits, fits_in, has_room, cost_kind, for_its_cost}
use Rattle.host_judge.specs.Deciding.{sums_of, elsewhere, HasRoom, IsWeighed, IsWeighedOf}

module _ (fabrics : List FabricLine) (line : TenantLine) (c : Cost) (exact : (s : sums.Cost) → c ≡ saturated_cost s → sums_of c ≡ s) (fabric : FabricLine) (there : slice_get fabrics line.fabric ≡ Some fabric) where
  pub too-dear : (kind : List ℕ) → fits (sums_of c) fabric.capacity ≡ false → kind ≡ cost_kind (sums_of c) fabric.capacity
      → (d : Flat) → c ≡ saturated_cost (sums.cost d) → IsWeighed fabrics line d (Some (elsewhere kind))
  too-dear kind above is d e files bytes =
      let same : sums_of c ≡ sums.cost d = exact (sums.cost d) e in
      for_its_cost {d = d} {fabric = fabric} refl there (subst (λ (x : sums.Cost). fits x fabric.capacity ≡ false) same above) refl
      (subst (λ (x : sums.Cost). kind ≡ cost_kind x fabric.capacity) same is)

  pub has-room : fits (sums_of c) fabric.capacity ≡ true → (d : Flat) → c ≡ saturated_cost (sums.cost d) → IsWeighed fabrics line d None
  has-room h d e =
      let same : sums_of c ≡ sums.cost d = exact (sums.cost d) e in
      (ap (λ (o : Option FabricLine). fits_in (sums.cost d) o) there ∙ subst (λ (x : sums.Cost). fits x fabric.capacity ≡ true) same h, ap sums_of (sym e) ∙ same)

-- a text stands for one design
abbrev pub IsOne : Type 0
IsOne = (text : List ℕ) (d e : Flat) → StandsFor text d → StandsFor text e → d ≡ e

-- an image costs what the design costs that its text stands for
module _ (fabrics : List FabricLine) (line : TenantLine) (text : List ℕ) (image : Image) (is : IsImageOf text image) (weighed : IsWeighedOf text fabrics line None) (one : IsOne) where
  same-cost : sums.cost (flat_of image.design) ≡ sums.cost weighed.0
  same-cost = is.runs.cost ∙ ap sums.cost (one text is.design weighed.0 is.stands weighed.1)

  pub image-room : HasRoom fabrics line (flat_of image.design)
  image-room = subst (λ (x : sums.Cost). has_room fabrics x line.fabric ≡ true) (sym same-cost) weighed.2.0

  pub image-cost : sums_of image.cost ≡ sums.cost (flat_of image.design)
  image-cost = ap sums_of is.image_is.costs ∙ subst (λ (x : sums.Cost). sums_of (saturated_cost x) ≡ x) (sym same-cost) weighed.2.1
