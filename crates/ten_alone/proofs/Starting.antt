-- What a run of a tenant's image starts from can be run.
use Rattle.std.proofs.Common.{◌≡◌, ℕ, List, Option, Some, None, sym, subst}
use Rattle.std.specs.Prelude.{option_map}
use Rattle.ten_core.specs.vl_base.specs.declared.files.File.{File}
use Rattle.ten_core.specs.vl_design.specs.Alone as alone
use Rattle.ten_core.specs.vl_design.specs.Laws.{IsFine, StartsFine, StartsOpen}
use Rattle.ten_core.specs.vl_design.specs.Snapshots.{kept_values}
use Rattle.ten_core.specs.vl_design.specs.Syntax.{Flat}
use Rattle.ten_core.specs.vl_runs.specs.Checked.{IsOrder}
use Rattle.ten_core.specs.reg_ports.specs.Refusals.{AreFit}
use Rattle.ten_core.specs.ten_form.specs.Works.{HaveBytes}
use Rattle.ten_core.specs.declared.origin.Origin.{Origin}
use Rattle.ten_core.specs.Runs.{IsTame}
use Rattle.ten_core.specs.Tenants.{origin_of, IsImage}
use Rattle.ten_make.specs.Designs.{IsTenantDesign}
use Rattle.ten_core.specs.Holding.{CanBeHeld}
use Rattle.ten_core.specs.Ports.{ports_of}
use Rattle.ten_core.specs.Begins.{flat_in, StartFits}
use Rattle.ten_core.specs.ten_plan.specs.declared.held.Held.{Held}
use Rattle.ten_core.specs.ten_plan.specs.Held.{snapshot_of}
use Rattle.ten_shell.specs.Shells.{CanRunOn}
use Rattle.ten_alone.specs.Alone.{IsRunnable}

-- words that fit are fine
abbrev FitsFine : Type 0
FitsFine = (d : Flat) (words : List ℕ) → CanBeHeld d → AreFit (ports_of d.rows) words → IsFine d.rows (kept_values d.rows words)

starts-fine : (d : Flat) (files : List File) (h : Option Held) → CanBeHeld d → FitsFine → StartFits d files h → StartsFine d.rows (option_map (snapshot_of d.rows) h)
starts-fine d files None held fine s = tt
starts-fine d files (Some h) held fine s = fine d h.words held s.words

starts-open : (d : Flat) (files : List File) (h : Option Held) → StartFits d files h → StartsOpen files (option_map (snapshot_of d.rows) h)
starts-open d files None s = tt
starts-open d files (Some h) s = s.table

module _ (x : Origin) (r : IsRunnable x) (fine : FitsFine) where
  held : CanBeHeld (flat_in x)
  held = r.image.held

  start : StartsFine (origin_of x).flat.rows (origin_of x).resume
  start = starts-fine (flat_in x) x.files x.start held fine r.start

  pub can-run : ((o : alone.Origin) (order : List ℕ) → IsTenantDesign o.flat order → HaveBytes o.files → StartsFine o.flat.rows o.resume → IsTame o order) → CanRunOn x
  can-run tame =
      let same : r.order ≡ x.image.order.items = sym r.image.ordered in
      record {
        begins = record {
          unrolled = r.tenant.unrolled;
          checked = r.tenant.checked;
          ordered = subst (λ order. IsOrder (flat_in x) order) same r.tenant.ordered;
          image = subst (λ order. IsImage (flat_in x) order x.image) same r.image;
          held = held;
          start = r.start;
        };
        tame = subst (λ order. IsTame (origin_of x) order) same (tame (origin_of x) r.order r.tenant r.files.bytes start);
        start = start;
        opens = starts-open (flat_in x) x.files x.start r.start;
        plan = r.plan;
        within = r.within;
        files = r.files;
      }
