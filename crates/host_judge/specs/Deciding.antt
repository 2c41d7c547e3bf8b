-- What comes of the tenants on the way to their verdicts (own).
use Rattle.std.specs.Prelude.{◌≡◌, ℕ, true, List, [], ◌∷◌, ◌++◌, Option, Some, None, option_map, length, take}
use Rattle.ten_core.specs.vl_base.specs.declared.files.File.{File}
use Rattle.ten_core.specs.vl_design.specs.declared.capacity.Cost.{Cost}
use Rattle.ten_core.specs.vl_design.specs.Costs.{saturated_cost}
use Rattle.ten_core.specs.vl_design.specs.Alone as alone
use Rattle.ten_core.specs.vl_design.specs.Cost as sums
use Rattle.ten_core.specs.vl_design.specs.Cost.{cost}
use Rattle.ten_core.specs.vl_design.specs.Syntax.{Flat}
use Rattle.vl_front.specs.declared.fault.BuildError.{BuildError}
use Rattle.vl_front.specs.declared.fault.BuildError.TheVariants as build
use Rattle.vl_front.specs.Sources.{StandsFor}
use Rattle.host_files.specs.host_text.specs.declared.script.FabricLine.{FabricLine}
use Rattle.host_files.specs.host_text.specs.declared.script.TenantLine.{TenantLine}
use Rattle.host_files.specs.host_text.specs.declared.script.Script.{Script}
use Rattle.ten_core.specs.Begins.{StartFits}
use Rattle.elab_laws.specs.ten_plan.specs.declared.held.Held.{Held}
use Rattle.elab_laws.specs.ten_plan.specs.declared.plan.Plan.{Plan}
use Rattle.elab_laws.specs.ten_plan.specs.Held.{snapshot_of}
use Rattle.elab_laws.specs.ten_plan.specs.Plans.{plan_of}
use Rattle.host_files.specs.host_form.specs.Origins.{Accepted, Tenant, IsOrigin, IsRefused, Starts, StartsNot, has_room, no_place}
use Rattle.host_files.specs.declared.loaded.Loaded.{Loaded}
use Rattle.host_judge.specs.declared.judge.Decision.{Decision}
use Rattle.host_judge.specs.declared.judge.Decision.TheVariants as decision
use Rattle.host_judge.specs.declared.judge.Verdict.{Verdict}
use Rattle.host_judge.specs.declared.judge.Verdict.TheVariants as verdict
use Rattle.host_judge.specs.declared.starting.Start.{Start}
use Rattle.host_judge.specs.declared.starting.Start.TheVariants as start
use Rattle.host_judge.specs.declared.verdict.Judged.{Judged}
use Rattle.host_judge.specs.declared.verdict.Ready.{Ready}
use Rattle.host_files.specs.host_form.specs.declared.refusal.Refusal.{Refusal}
use Rattle.host_judge.specs.Judged.{kind_words, IsReady, AreTenants, AreJudged}

-- the numbers of a cost as sums
abbrev pub sums_of : Cost → sums.Cost
sums_of c = record { regs = c.regs; cells = c.cells; mem = c.mem }

-- a tenant of an accepted design
abbrev pub accepted : TenantLine → Flat → List File → Option (List ℕ) → Tenant
accepted line design files snapshot = record { line = line; source = Accepted design; files = files; snapshot = snapshot }

-- a refusal that isn't of the source
abbrev pub elsewhere : List ℕ → Refusal
elsewhere words = record { place = no_place; kind = words }

-- it begins with what its bytes say and what fits the design, or they have this fault
abbrev pub IsStarted : Flat → List File → ℕ → Option (List ℕ) → Start → Type 0
IsStarted d files budget bytes (start.From held) = Starts d files budget bytes (option_map (snapshot_of d.rows) held) × StartFits d files held
IsStarted d files budget bytes (start.Bad fault) = StartsNot d files budget bytes fault

-- the cost of a design fits the tenant's fabric
abbrev pub HasRoom : List FabricLine → TenantLine → Flat → Type 0
HasRoom fabrics line d = has_room fabrics (cost d) line.fabric ≡ true

-- the cost of a design fits the tenant's fabric, and its numbers have 64 bits; or it is refused for its cost, whatever its files and its snapshot are
abbrev pub IsWeighed : List FabricLine → TenantLine → Flat → Option Refusal → Type 0
IsWeighed fabrics line d None = HasRoom fabrics line d × (sums_of (saturated_cost (cost d)) ≡ cost d)
IsWeighed fabrics line d (Some r) = (files : List File) (bytes : Option (List ℕ)) → IsRefused fabrics (accepted line d files bytes) r.place r.kind

-- and so is the design that a text stands for
abbrev pub IsWeighedOf : List ℕ → List FabricLine → TenantLine → Option Refusal → Type 0
IsWeighedOf text fabrics line r = (d : Flat) × StandsFor text d × IsWeighed fabrics line d r

-- the origin of a design
abbrev pub origin_by : Flat → List File → Plan → Option Held → alone.Origin
origin_by d files plan held = record { flat = d; files = files; plan = plan_of plan; resume = option_map (snapshot_of d.rows) held }

-- a design runs from its origin, or is refused
abbrev pub IsDecided : List FabricLine → TenantLine → Flat → List File → Option (List ℕ) → Decision → Type 0
IsDecided fabrics line d files bytes (decision.Runs plan held) = IsOrigin fabrics (accepted line d files bytes) (origin_by d files plan held) × StartFits d files held
IsDecided fabrics line d files bytes (decision.Refused r) = IsRefused fabrics (accepted line d files bytes) r.place r.kind

-- a tenant is to run so, or is refused so
abbrev pub IsVerdict : List FabricLine → Tenant → Verdict → Type 0
IsVerdict fabrics t (verdict.Runs r) = IsReady fabrics t r
IsVerdict fabrics t (verdict.Refused r) = IsRefused fabrics t r.place r.kind

-- and so is a tenant of the design that a text stands for
abbrev pub IsVerdictOf : List ℕ → List FabricLine → TenantLine → List File → Option (List ℕ) → Verdict → Type 0
IsVerdictOf text fabrics line files bytes v = (d : Flat) × StandsFor text d × IsVerdict fabrics (accepted line d files bytes) v

-- a source that isn't accepted is refused so
abbrev pub IsSourceRefused : BuildError → Verdict → Type 0
IsSourceRefused (build.Refused place kind) v = v ≡ verdict.Refused (record { place = place; kind = kind_words kind })
IsSourceRefused build.Memory v = ⊥

-- what was noted before, with one more verdict
pub record IsOneMore (refusal : Option Refusal) (ready : List Ready) (before after : Judged) : Type 0 where
  pub refusals : after.refusals.items ≡ before.refusals.items ++ refusal ∷ []
  pub readies : after.readies.items ≡ before.readies.items ++ ready

abbrev pub IsNoted : Verdict → Judged → Judged → Type 0
IsNoted (verdict.Runs r) before after = IsOneMore None (r ∷ []) before after
IsNoted (verdict.Refused r) before after = IsOneMore (Some r) [] before after

-- the tenants of which this was read, the first of a script, are judged so
pub record AreSoFar (s : Script) (seen : List Loaded) (j : Judged) : Type 0 where
  pub tenants : List Tenant
  pub are : AreTenants (take (length seen) s.tenants) seen tenants
  pub verdicts : AreJudged s.fabrics tenants j.refusals.items j.readies.items
  pub count : length j.refusals.items ≡ length seen
