-- What a tenant of a script starts from, or why it is refused (own).
use Rattle.std.specs.Prelude.{◌≡◌, ℕ, ◌<◌, ◌≤◌, Bool, true, false, ◌&&◌, nat_le, List, [], ◌∷◌, ◌++◌, map, filter, codes, slice_get, Option, Some, None, Ok, Err, ⊤}
use Rattle.fab_io.specs.Outside.{Files}
use Rattle.host_text.specs.vl_base.specs.declared.files.File.{File}
use Rattle.host_text.specs.vl_base.specs.declared.place.Place.{Place}
use Rattle.host_text.specs.vl_design.specs.Syntax.{Flat}
use Rattle.host_text.specs.vl_design.specs.Cost.{Cost, cost}
use Rattle.host_text.specs.vl_design.specs.Snapshots as run
use Rattle.host_text.specs.vl_design.specs.Alone as alone
use Rattle.host_text.specs.vl_design.specs.Alone.{Plan, Origin}
use Rattle.host_text.specs.declared.statement.Capacity.{Capacity}
use Rattle.host_text.specs.declared.script.FabricLine.{FabricLine}
use Rattle.host_text.specs.declared.script.FileLine.{FileLine}
use Rattle.host_text.specs.ten_plan.specs.declared.plan.Due.{Due}
use Rattle.host_text.specs.ten_plan.specs.declared.plan.Due.TheVariants as due
use Rattle.host_text.specs.ten_plan.specs.declared.plan.Errand.{Errand}
use Rattle.host_text.specs.ten_plan.specs.Plans.{errand_of}
use Rattle.host_text.specs.ten_plan.specs.Written as written
use Rattle.host_text.specs.ten_plan.specs.Written.{kept}
use Rattle.host_text.specs.declared.script.TenantLine.{TenantLine}
use Rattle.host_text.specs.Report.{number}
use Rattle.host_text.specs.snap_form.specs.declared.snapshot.SnapRow.{SnapRow}
use Rattle.host_text.specs.snap_form.specs.declared.snapshot.Snapshot.{Snapshot}
use Rattle.host_text.specs.snap_form.specs.declared.snapshot.SnapError.TheVariants as snap
use Rattle.host_text.specs.snap_form.specs.Reading as snapshots

-- ---- what is read of a tenant

-- what a source is judged to be: an accepted design, or a text with a fault at a place, of a kind in words
pub data Source : Type 0 where
  Accepted : (design : Flat) → Source
  Faulty : (place : Place) (kind : List ℕ) → Source

-- a tenant: its lines in the script, what its source is judged to be, its files under their names in the source, and the bytes
-- of the snapshot from which it is resumed, if it is
pub record Tenant : Type 0 where
  pub line : TenantLine
  pub source : Source
  pub files : List File
  pub snapshot : Option (List ℕ)

-- the files have the names of these lines, and the bytes that are told at their paths
abbrev pub AreFilesAt : Files → List FileLine → List File → Type 0
AreFilesAt told [] [] = ⊤
AreFilesAt told [] (f ∷ fs) = ⊥
AreFilesAt told (l ∷ ls) [] = ⊥
AreFilesAt told (l ∷ ls) (f ∷ fs) = (f.name ≡ l.name) × (told l.path ≡ Some f.bytes) × AreFilesAt told ls fs

-- there are bytes exactly where a path is given, and they are told at it
abbrev pub IsSnapshotAt : Files → Option (List ℕ) → Option (List ℕ) → Type 0
IsSnapshotAt told None None = ⊤
IsSnapshotAt told None (Some bytes) = ⊥
IsSnapshotAt told (Some path) None = ⊥
IsSnapshotAt told (Some path) (Some bytes) = told path ≡ Some bytes

-- the tenant is what the store tells of its line, where judged says what the bytes of a source are judged to be
pub record IsRead (judged : List ℕ → Source → Type 0) (told : Files) (line : TenantLine) (t : Tenant) : Type 0 where
  pub text : List ℕ
  pub is : t.line ≡ line
  pub there : told line.source ≡ Some text
  pub source : judged text t.source
  pub files : AreFilesAt told line.files t.files
  pub snapshot : IsSnapshotAt told line.resume t.snapshot

-- ---- fabrics

-- a cost fits a capacity: each of its three numbers does
abbrev pub fits : Cost → Capacity → Bool
fits c room = nat_le c.regs room.registers && nat_le c.cells room.cells && nat_le c.mem room.memory

abbrev pub fits_in : Cost → Option FabricLine → Bool
fits_in c None = false
fits_in c (Some f) = fits c f.capacity

-- the fabric of a number is large enough for a cost
abbrev pub has_room : List FabricLine → Cost → ℕ → Bool
has_room fabrics c n = fits_in c (slice_get fabrics n)

-- ---- plans

-- an errand that is planned: all but moves to fabrics that are too small
abbrev pub is_planned : List FabricLine → Cost → Due → Bool
is_planned fabrics c (due.Save name) = true
is_planned fabrics c (due.Move fabric) = has_room fabrics c fabric
is_planned fabrics c due.Stop = true

-- the plan of a tenant of this cost: its budget, and its planned errands in the script's order
abbrev pub plan_of : List FabricLine → Cost → TenantLine → Plan
plan_of fabrics c t = record { budget = t.budget; errands = map errand_of (filter (λ e. is_planned fabrics c e.due) t.errands) }

-- ---- snapshots

-- the rows of a snapshot of a design
abbrev pub rows_of : Flat → List SnapRow
rows_of d = written.rows_of d.rows

-- what a design is resumed from, where its files and its budget are these: nothing where there are no bytes; else the snapshot of
-- its rows and files that they spell, whose tick isn't above the budget
pub data Starts (d : Flat) (files : List File) (budget : ℕ) : Option (List ℕ) → Option run.Snapshot → Type 0 where
  anew : Starts d files budget None None
  resumed : {bytes : List ℕ} (s : Snapshot) → snapshots.read (rows_of d) files bytes ≡ Ok s → s.tick ≤ budget → Starts d files budget (Some bytes) (Some (kept s))

-- the fault of a snapshot: its first by field, from 1 to 7; 8 where its tick is above the budget
pub data StartsNot (d : Flat) (files : List File) (budget : ℕ) : Option (List ℕ) → ℕ → Type 0 where
  misspelt : {bytes : List ℕ} (fault offset : ℕ) → snapshots.read (rows_of d) files bytes ≡ Err (snap.Bad fault offset) → StartsNot d files budget (Some bytes) fault
  late : {bytes : List ℕ} (s : Snapshot) → snapshots.read (rows_of d) files bytes ≡ Ok s → budget < s.tick → StartsNot d files budget (Some bytes) 8

-- ---- origins

-- what a tenant starts from: its accepted design, whose cost fits its fabric; its files; its plan without errands to fabrics
-- that are too small; and its snapshot
pub record IsOrigin (fabrics : List FabricLine) (t : Tenant) (o : Origin) : Type 0 where
  pub design : t.source ≡ Accepted o.flat
  pub room : has_room fabrics (cost o.flat) t.line.fabric ≡ true
  pub files : o.files ≡ t.files
  pub plan : o.plan ≡ plan_of fabrics (cost o.flat) t.line
  pub start : Starts o.flat t.files t.line.budget t.snapshot o.resume

-- ---- refusals

-- the place of a refusal that isn't of the source
abbrev pub no_place : Place
no_place = record { line = 0; column = 0 }

-- `cost` with the three numbers of a cost and those of a capacity
abbrev pub cost_kind : Cost → Capacity → List ℕ
cost_kind c room = codes "cost" ++ number c.regs ++ number c.cells ++ number c.mem ++ number room.registers ++ number room.cells ++ number room.memory

-- `snapshot` with the number of a fault
abbrev pub snapshot_kind : ℕ → List ℕ
snapshot_kind fault = codes "snapshot" ++ number fault

-- why a tenant is refused: its source has a fault; else its cost doesn't fit its fabric; else its snapshot has a fault
pub data IsRefused (fabrics : List FabricLine) (t : Tenant) (place : Place) (kind : List ℕ) : Type 0 where
  for_its_source : t.source ≡ Faulty place kind → IsRefused fabrics t place kind
  for_its_cost : {d : Flat} {fabric : FabricLine} → t.source ≡ Accepted d → slice_get fabrics t.line.fabric ≡ Some fabric →
      fits (cost d) fabric.capacity ≡ false → place ≡ no_place → kind ≡ cost_kind (cost d) fabric.capacity → IsRefused fabrics t place kind
  for_its_snapshot : {d : Flat} {fault : ℕ} → t.source ≡ Accepted d → has_room fabrics (cost d) t.line.fabric ≡ true →
      StartsNot d t.files t.line.budget t.snapshot fault → place ≡ no_place → kind ≡ snapshot_kind fault → IsRefused fabrics t place kind
