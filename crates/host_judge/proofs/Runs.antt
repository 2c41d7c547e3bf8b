-- A tenant whose image runs is ready.
use Rattle.std.proofs.Common.{◌≡◌, ℕ, ◌≤◌, true, List, length, Option, Some, Ok, refl, sym, subst}
use Rattle.std.specs.Prelude.{option_map}
use Rattle.ten_core.specs.vl_base.specs.declared.files.File.{File}
use Rattle.ten_core.specs.vl_base.specs.Files.{IsFileSet}
use Rattle.elab_laws.specs.vl_tree.specs.declared.source_tree.Source.{Source}
use Rattle.ten_core.specs.vl_design.specs.Alone as alone
use Rattle.ten_core.specs.vl_design.specs.Alone.{first_tick}
use Rattle.ten_core.specs.vl_design.specs.Cost.{Cost, cost}
use Rattle.ten_core.specs.vl_design.specs.Placed as p
use Rattle.ten_core.specs.vl_design.specs.Plainly as plain
use Rattle.ten_core.specs.vl_design.specs.Syntax.{Flat}
use Rattle.ten_core.specs.vl_design.specs.Trees.{flat_of}
use Rattle.elab_laws.specs.vl_sound.specs.Meeting.{IsElaboration}
use Rattle.vl_front.specs.Sources.{StandsFor}
use Rattle.elab_laws.specs.Names.{NamesErrands, NamesSaves}
use Rattle.host_files.specs.host_text.specs.declared.script.FabricLine.{FabricLine}
use Rattle.host_files.specs.host_text.specs.declared.script.TenantLine.{TenantLine}
use Rattle.host_files.specs.host_text.specs.Laws.{IsTenant, IsSpeltTenant}
use Rattle.ten_alone.specs.Alone.{IsRunnable}
use Rattle.ten_build.specs.Builds.{IsImageOf}
use Rattle.ten_core.specs.declared.image.Image.{Image}
use Rattle.ten_core.specs.declared.origin.Origin.{Origin}
use Rattle.elab_laws.specs.ten_plan.specs.declared.held.Held.{Held}
use Rattle.elab_laws.specs.ten_plan.specs.declared.plan.Plan.{Plan}
use Rattle.elab_laws.specs.ten_plan.specs.Held.{snapshot_of}
use Rattle.elab_laws.specs.ten_plan.specs.Plans.{plan_of, move_at, IsPlan}
use Rattle.ten_alone.specs.ten_shell.specs.Shells.{CanRunOn}
use Rattle.host_files.specs.host_form.specs.Origins as tenants
use Rattle.host_files.specs.host_form.specs.Origins.{IsOrigin, has_room, is_planned}
use Rattle.host_judge.specs.Judged.{IsReady}
use Rattle.host_judge.specs.Deciding.{accepted, origin_by, IsDecided}
use Rattle.host_judge.specs.declared.judge.Decision.TheVariants as decision
use Rattle.host_judge.proofs.Begun.{within-budget}
use Rattle.host_judge.proofs.Moved.{moved-origin}
use Rattle.host_judge.proofs.Planned.{ordered, all-named, has-room}

-- the laws that are called
abbrev pub Names : Type 0
Names = (s : Source) (d : p.Design) → IsElaboration s (Ok d) → NamesSaves (plain.flat d)

abbrev pub CanRun : Type 0
CanRun = (x : Origin) → IsRunnable x → CanRunOn x

named-design : Names → (text : List ℕ) (d : Flat) → StandsFor text d → NamesSaves d
named-design names text d stands = subst NamesSaves (sym stands.is) (names stands.of.tree stands.flat stands.of.elaborated)

module _ (fabrics : List FabricLine) (line : TenantLine) (text : List ℕ) (image : Image) (is : IsImageOf text image) (files : List File) (bytes : Option (List ℕ)) (plan : Plan) (held : Option Held)
    (kept : IsTenant (length fabrics) line) (spelt : IsSpeltTenant line) (h : IsDecided fabrics line (flat_of image.design) files bytes (decision.Runs plan held)) where
  abbrev unrolled : Flat
  unrolled = flat_of image.design

  abbrev from : Origin
  from = record { image = image; files = files; plan = plan; start = held }

  abbrev origin : alone.Origin
  origin = record { flat = is.design; files = files; plan = plan_of plan; resume = option_map (snapshot_of unrolled.rows) held }

  plan-is : plan_of plan ≡ tenants.plan_of fabrics (cost unrolled) line
  plan-is = h.0.plan

  is-plan : IsPlan (plan_of plan)
  is-plan = subst IsPlan (sym plan-is) (record { budget = spelt.budget; ordered = ordered (λ e. is_planned fabrics (cost unrolled) e.due) line.errands kept.ordered kept.apart })

  errands-named : NamesErrands (plan_of plan)
  errands-named = subst NamesErrands (sym plan-is) (record { errands = all-named (λ e. is_planned fabrics (cost unrolled) e.due) line.errands spelt.errands })

  moves-there : (tick g : ℕ) → move_at tick (plan_of plan).errands ≡ Some g → has_room fabrics (cost is.design) g ≡ true
  moves-there tick g e =
      subst (λ (c : Cost). has_room fabrics c g ≡ true) is.runs.cost
      (has-room fabrics (cost unrolled) tick g line.errands (subst (λ (q : alone.Plan). move_at tick q.errands ≡ Some g) plan-is e))

  within : first_tick (option_map (snapshot_of unrolled.rows) held) ≤ (plan_of plan).budget
  within = subst (λ (q : alone.Plan). first_tick (option_map (snapshot_of unrolled.rows) held) ≤ q.budget) (sym plan-is) (within-budget h.0.start)

  runnable : IsFileSet files → IsRunnable from
  runnable set = record { order = is.order; image = is.image_is; tenant = is.tenant; start = h.1; plan = is-plan; within = within; files = set }

  pub ready : IsFileSet files → Names → CanRun → IsReady fabrics (accepted line is.design files bytes) (record { fabric = line.fabric; origin = from })
  ready set names can = record {
    origin = origin;
    is = moved-origin unrolled is.design is.runs.rows is.runs.cost fabrics line files bytes (origin_by unrolled files plan held) refl h.0;
    fabric = refl;
    runs = record { files = refl; plan = refl; resume = refl; run = is.runs.same origin refl; cost = is.runs.cost };
    rows = is.runs.rows;
    can = can from (runnable set);
    written = is.names;
    saves = named-design names text is.design is.stands;
    errands = errands-named;
    plan = is-plan;
    moves = moves-there;
  }
