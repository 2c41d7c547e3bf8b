-- What the tenants of a script are judged to be (own).
use Rattle.std.specs.Prelude.{◌≡◌, ℕ, true, List, [], ◌∷◌, ◌++◌, codes, Option, Some, None, ⊤}
use Rattle.std.specs.Fmt.{decimal}
use Rattle.std.specs.List.{AllByRecursion}
use Rattle.ten_core.specs.vl_design.specs.Alone as alone
use Rattle.ten_core.specs.vl_design.specs.Cost.{cost}
use Rattle.vl_front.specs.declared.fault.Kind.{Kind}
use Rattle.vl_front.specs.declared.fault.Kind.TheVariants as k
use Rattle.vl_front.specs.Sources.{StandsFor, IsRefusal}
use Rattle.elab_laws.specs.Names.{NamesErrands, NamesSaves}
use Rattle.host_files.specs.host_text.specs.declared.script.FabricLine.{FabricLine}
use Rattle.host_files.specs.host_text.specs.declared.script.TenantLine.{TenantLine}
use Rattle.ten_core.specs.Tenants.{origin_of}
use Rattle.elab_laws.specs.ten_plan.specs.Plans.{move_at, IsPlan}
use Rattle.elab_laws.specs.ten_plan.specs.Written.{HasRows}
use Rattle.ten_alone.specs.ten_shell.specs.Shells.{CanRunOn}
use Rattle.host_files.specs.host_form.specs.Origins.{Source, Accepted, Faulty, Tenant, has_room, IsOrigin, IsRefused}
use Rattle.host_files.specs.host_form.specs.Runs.{RunsAs}
use Rattle.host_files.specs.declared.loaded.Loaded.{Loaded}
use Rattle.host_files.specs.Reading.{bytes_in}
use Rattle.host_judge.specs.declared.verdict.Ready.{Ready}
use Rattle.host_files.specs.host_form.specs.declared.refusal.Refusal.{Refusal}

-- the kind of a refusal
abbrev pub kind_words : Kind → List ℕ
kind_words (k.Lex cause) = codes "lex " ++ decimal cause
kind_words k.Parse = codes "parse"
kind_words (k.Construct number) = codes "construct " ++ decimal number
kind_words (k.Limit number) = codes "limit " ++ decimal number
kind_words (k.Loop cycle) = codes "loop"

-- what the bytes of a source are judged to be: the design that they stand for, or the place and the kind of their refusal
abbrev pub judged : List ℕ → Source → Type 0
judged text (Accepted d) = StandsFor text d
judged text (Faulty place words) = (kind : Kind) × IsRefusal text place kind × (words ≡ kind_words kind)

-- ---- tenants

-- a tenant, by its line and what was read of it
pub record IsTenantOf (line : TenantLine) (l : Loaded) (t : Tenant) : Type 0 where
  pub is : t.line ≡ line
  pub source : judged l.source.items t.source
  pub files : t.files ≡ l.files
  pub snapshot : t.snapshot ≡ bytes_in l.snapshot

abbrev pub AreTenants : List TenantLine → List Loaded → List Tenant → Type 0
AreTenants [] [] [] = ⊤
AreTenants (line ∷ lines) (l ∷ ls) (t ∷ ts) = IsTenantOf line l t × AreTenants lines ls ts
AreTenants _ _ _ = ⊥

-- ---- verdicts

-- what a tenant starts from that is to run: its run is that of its origin
pub record IsReady (fabrics : List FabricLine) (t : Tenant) (r : Ready) : Type 0 where
  pub origin : alone.Origin
  pub is : IsOrigin fabrics t origin
  pub fabric : r.fabric ≡ t.line.fabric
  pub runs : RunsAs origin (origin_of r.origin)
  pub rows : (origin_of r.origin).flat.rows ≡ origin.flat.rows
  pub can : CanRunOn r.origin
  pub written : HasRows (origin_of r.origin).flat.rows
  pub saves : NamesSaves origin.flat
  pub errands : NamesErrands origin.plan
  pub plan : IsPlan origin.plan
  -- no move goes to a fabric that is too small
  pub moves : (k g : ℕ) → move_at k origin.plan.errands ≡ Some g → has_room fabrics (cost origin.flat) g ≡ true

-- each tenant is refused so, or is the next that is to run
abbrev pub AreJudged : List FabricLine → List Tenant → List (Option Refusal) → List Ready → Type 0
AreJudged fabrics [] [] [] = ⊤
AreJudged fabrics (t ∷ ts) (Some r ∷ refusals) readies = IsRefused fabrics t r.place r.kind × AreJudged fabrics ts refusals readies
AreJudged fabrics (t ∷ ts) (None ∷ refusals) (r ∷ readies) = IsReady fabrics t r × AreJudged fabrics ts refusals readies
AreJudged fabrics _ _ _ = ⊥

-- each of these is some tenant's
abbrev pub AreReady : List FabricLine → List Ready → Type 0
AreReady fabrics readies = AllByRecursion (λ r. (t : Tenant) × IsReady fabrics t r) readies
