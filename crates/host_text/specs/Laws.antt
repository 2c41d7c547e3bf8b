-- The reading of a script in other words, the order of errands, the limits that a script keeps to, and the words that stand in it.
use Rattle.std.specs.Prelude.{◌≡◌, ℕ, ◌+◌, ◌<◌, ◌≤◌, Bool, true, false, ◌&&◌, ◌==◌, not, if◌then◌else◌, List, [], ◌∷◌, length, take, Option, Some, None, IfSome, Result, Ok, slice_index_or, ⊤}
use Rattle.std.specs.List.{AllByRecursion, IsDistinct}
use Rattle.std.specs.Str.{bytes_eq}
use Rattle.host_text.specs.Words.{lines, is_name, is_save_name, is_path}
use Rattle.host_text.specs.Statements.{Statement}
use Rattle.host_text.specs.Statements as said
use Rattle.host_text.specs.declared.script.FabricLine.{FabricLine}
use Rattle.host_text.specs.declared.script.FileLine.{FileLine}
use Rattle.ten_plan.specs.declared.plan.Due.{Due}
use Rattle.ten_plan.specs.declared.plan.Due.TheVariants as due
use Rattle.ten_plan.specs.declared.plan.Errand.{Errand}
use Rattle.host_text.specs.declared.script.TenantLine.{TenantLine}
use Rattle.host_text.specs.declared.script.Free.{Free}
use Rattle.host_text.specs.declared.script.Free.TheVariants as free
use Rattle.host_text.specs.declared.script.Script.{Script}
use Rattle.host_text.specs.Scripts.{comes_before, is_save}
use Rattle.host_text.specs.Reading.{script_of, line_cause, is_bare}

-- ---- the reading

-- the least cause of the line that stands behind k others
abbrev pub cause_at : List (List ℕ) → ℕ → Option ℕ
cause_at ls k = line_cause (take k ls) (slice_index_or ls k [])

-- none of the first k lines has a cause
abbrev pub AreRight : List (List ℕ) → ℕ → Type 0
AreRight ls k = (j : ℕ) → j < k → cause_at ls j ≡ None

-- no line of a script has a cause, it has a fabric and a tenant, and s is what its lines declare
pub record IsScript (bytes : List ℕ) (s : Script) : Type 0 where
  pub right : AreRight (lines bytes) (length (lines bytes))
  pub whole : is_bare (script_of (lines bytes)) ≡ false
  pub is : s ≡ script_of (lines bytes)

-- the first fault of a script: the least cause of the first line that has one; or the cause 9 at the line after the last, where
-- none has and no fabric or no tenant is there
pub data IsFault (bytes : List ℕ) (line cause : ℕ) : Type 0 where
  At : (k : ℕ) → line ≡ k + 1 → k < length (lines bytes) → cause_at (lines bytes) k ≡ Some cause → AreRight (lines bytes) k → IsFault bytes line cause
  Bare : line ≡ length (lines bytes) + 1 → cause ≡ 9 → AreRight (lines bytes) (length (lines bytes)) → is_bare (script_of (lines bytes)) ≡ true → IsFault bytes line cause

-- ---- errands

-- none comes before one that stands before it
abbrev pub AreOrdered : List Errand → Type 0
AreOrdered [] = ⊤
AreOrdered (x ∷ xs) = AllByRecursion (λ y. comes_before y x ≡ false) xs × AreOrdered xs

-- of the same tick, and both saves or none of them
abbrev pub is_like : Errand → Errand → Bool
is_like a b = a.tick == b.tick && (if is_save a.due then is_save b.due else not (is_save b.due))

-- ---- limits

-- the same save, or neither a save
abbrev pub is_same_due : Due → Due → Bool
is_same_due (due.Save a) (due.Save b) = bytes_eq a b
is_same_due (due.Save a) _ = false
is_same_due _ (due.Save b) = false
is_same_due _ _ = true

-- errands that may not both stand: at one tick, the same save or neither a save
abbrev pub are_doubled : Errand → Errand → Bool
are_doubled a b = a.tick == b.tick && is_same_due a.due b.due

-- a move goes to one of so many fabrics
abbrev pub IsDue : ℕ → Due → Type 0
IsDue fabrics (due.Move fabric) = fabric < fabrics
IsDue fabrics (due.Save name) = ⊤
IsDue fabrics due.Stop = ⊤

-- a tenant at one of so many fabrics
pub record IsTenant (fabrics : ℕ) (t : TenantLine) : Type 0 where
  pub fabric : t.fabric < fabrics
  pub files : length t.files ≤ 16
  pub errands : length t.errands ≤ 256
  pub moves : AllByRecursion (λ e. IsDue fabrics e.due) t.errands
  pub ordered : AreOrdered t.errands
  pub apart : IsDistinct are_doubled t.errands

-- a free order of one of so many tenants, at one of so many fabrics
abbrev pub IsFree : ℕ → ℕ → Free → Type 0
IsFree fabrics tenants (free.Move tenant fabric) = (tenant < tenants) × (fabric < fabrics)
IsFree fabrics tenants (free.Stop tenant) = tenant < tenants
IsFree fabrics tenants (free.Save tenant name) = tenant < tenants
IsFree fabrics tenants (free.Watch tenant) = tenant < tenants

pub record IsWithinLimits (s : Script) : Type 0 where
  pub fabrics : length s.fabrics ≤ 8
  pub tenants : length s.tenants ≤ 64
  pub each : AllByRecursion (IsTenant (length s.fabrics)) s.tenants
  pub free : length s.free ≤ 256
  pub orders : AllByRecursion (IsFree (length s.fabrics) (length s.tenants)) s.free

-- ---- words

-- a save has the name of a snapshot
abbrev pub IsSpeltDue : Due → Type 0
IsSpeltDue (due.Save name) = is_save_name name ≡ true
IsSpeltDue (due.Move fabric) = ⊤
IsSpeltDue due.Stop = ⊤

-- no number is above 1,000,000,000
pub record IsSpeltFabric (f : FabricLine) : Type 0 where
  pub name : is_name f.name ≡ true
  pub registers : f.capacity.registers ≤ 1000000000
  pub cells : f.capacity.cells ≤ 1000000000
  pub memory : f.capacity.memory ≤ 1000000000

pub record IsSpeltFile (f : FileLine) : Type 0 where
  pub name : is_path f.name ≡ true
  pub path : is_path f.path ≡ true

pub record IsSpeltTenant (t : TenantLine) : Type 0 where
  pub name : is_name t.name ≡ true
  pub source : is_path t.source ≡ true
  pub budget : t.budget ≤ 1000000000
  pub files : AllByRecursion IsSpeltFile t.files
  pub different : IsDistinct (λ f g. bytes_eq f.name g.name) t.files
  pub resume : IfSome t.resume (λ path. is_path path ≡ true)
  pub errands : AllByRecursion (λ e. IsSpeltDue e.due) t.errands

abbrev pub IsSpeltFree : Free → Type 0
IsSpeltFree (free.Save tenant name) = is_save_name name ≡ true
IsSpeltFree (free.Move tenant fabric) = ⊤
IsSpeltFree (free.Stop tenant) = ⊤
IsSpeltFree (free.Watch tenant) = ⊤

-- names, paths and numbers are as lines may have them, and a tenant's files have different names
pub record IsSpelt (s : Script) : Type 0 where
  pub fabrics : AllByRecursion IsSpeltFabric s.fabrics
  pub tenants : AllByRecursion IsSpeltTenant s.tenants
  pub free : AllByRecursion IsSpeltFree s.free

-- ---- what lines declare

-- the fabric that a line declares
abbrev pub fabric_said : Result (Option Statement) ℕ → List FabricLine
fabric_said (Ok (Some (said.Fabric name capacity))) = record { name = name; capacity = capacity } ∷ []
fabric_said _ = []

-- the name of the tenant that a line declares
abbrev pub tenant_said : Result (Option Statement) ℕ → List (List ℕ)
tenant_said (Ok (Some (said.Tenant name source fabric budget))) = name ∷ []
tenant_said _ = []
