-- What is decided of a design, by its cost, its plan and its start.
use Rattle.std.proofs.Common.{◌≡◌, ℕ, List, Option, Err, refl, sym, ap, ◌∙◌, subst}
use Rattle.ten_core.specs.vl_base.specs.declared.files.File.{File}
use Rattle.ten_core.specs.vl_design.specs.declared.capacity.Cost.{Cost}
use Rattle.ten_core.specs.vl_design.specs.Cost as sums
use Rattle.ten_core.specs.vl_design.specs.Syntax.{Flat}
use Rattle.vl_front.specs.declared.fault.BuildError.{BuildError}
use Rattle.vl_front.specs.declared.fault.BuildError.TheVariants as build
use Rattle.vl_front.specs.Sources.{IsFront}
use Rattle.host_files.specs.host_text.specs.declared.script.FabricLine.{FabricLine}
use Rattle.host_files.specs.host_text.specs.declared.script.TenantLine.{TenantLine}
use Rattle.elab_laws.specs.ten_plan.specs.declared.held.Held.{Held}
use Rattle.elab_laws.specs.ten_plan.specs.declared.plan.Plan.{Plan}
use Rattle.elab_laws.specs.ten_plan.specs.Plans as known
use Rattle.host_files.specs.host_form.specs.Origins.{Faulty, Tenant, plan_of, snapshot_kind, for_its_source, for_its_snapshot}
use Rattle.host_files.specs.declared.loaded.Loaded.{Loaded}
use Rattle.host_files.specs.Reading.{bytes_in}
use Rattle.host_judge.specs.declared.judge.Decision.TheVariants as decision
use Rattle.host_judge.specs.declared.judge.Verdict.{Verdict}
use Rattle.host_judge.specs.declared.starting.Start.TheVariants as start
use Rattle.host_judge.specs.Judged.{kind_words, IsTenantOf}
use Rattle.host_judge.specs.Deciding.{sums_of, elsewhere, IsStarted, HasRoom, IsDecided, IsVerdict, IsSourceRefused}

-- a tenant whose source is refused
pub refused-source : (fabrics : List FabricLine) (line : TenantLine) (l : Loaded) (e : BuildError) (v : Verdict) → IsFront l.source.items (Err e) → IsSourceRefused e v
    → (t : Tenant) × IsTenantOf line l t × IsVerdict fabrics t v
refused-source fabrics line l (build.Refused place kind) v h e =
    let t : Tenant = record { line = line; source = Faulty place (kind_words kind); files = l.files; snapshot = bytes_in l.snapshot } in (
      t,
      record { is = refl; source = (kind, h, refl); files = refl; snapshot = refl },
      subst (λ (x : Verdict). IsVerdict fabrics t x) (sym e) (for_its_source refl),
    )
refused-source fabrics line l build.Memory v h e = absurd e

module _ (fabrics : List FabricLine) (line : TenantLine) (d : Flat) (files : List File) (bytes : Option (List ℕ)) where
  pub runs : (c : Cost) (plan : Plan) (held : Option Held) → sums_of c ≡ sums.cost d → HasRoom fabrics line d → known.plan_of plan ≡ plan_of fabrics (sums_of c) line
      → IsStarted d files line.budget bytes (start.From held) → IsDecided fabrics line d files bytes (decision.Runs plan held)
  runs c plan held same room planned started =
      (record { design = refl; room = room; files = refl; plan = planned ∙ ap (λ (x : sums.Cost). plan_of fabrics x line) same; start = started.0 }, started.1)

  pub misstarted : (fault : ℕ) (kind : List ℕ) → HasRoom fabrics line d → IsStarted d files line.budget bytes (start.Bad fault) → kind ≡ snapshot_kind fault
      → IsDecided fabrics line d files bytes (decision.Refused (elsewhere kind))
  misstarted fault kind room bad is = for_its_snapshot {d = d} {fault = fault} refl room bad refl is
