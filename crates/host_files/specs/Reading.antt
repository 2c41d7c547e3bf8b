-- What is read for a script, of how many bytes at most, and why something was not read.
use Rattle.std.specs.Prelude.{◌≡◌, ℕ, ◌-◌, ◌≤◌, List, [], ◌∷◌, ◌++◌, length, min, flat_map, slice_get, Option, Some, option_map, unwrap_or, IfSome, Result, Ok, Err, ◌⊎◌, ⊤}
use Rattle.std.specs.List.{sum_by}
use Rattle.std.specs.declared.vec.Vec.{Vec}
use Rattle.host_form.specs.fab_io.specs.declared.store.ReadError.{ReadError}
use Rattle.host_form.specs.fab_io.specs.declared.store.ReadError.TheVariants as read
use Rattle.host_form.specs.fab_io.specs.Outside.{Files, HasRisen, IsAbsent, IsTooLong, Miss}
use Rattle.host_form.specs.host_text.specs.declared.script.FileLine.{FileLine}
use Rattle.host_form.specs.host_text.specs.declared.script.TenantLine.{TenantLine}
use Rattle.host_form.specs.host_text.specs.declared.script.Script.{Script}
use Rattle.host_form.specs.Origins.{AreFilesAt, IsSnapshotAt}
use Rattle.host_files.specs.declared.loaded.Loaded.{Loaded}
use Rattle.host_files.specs.declared.loaded.LoadError.{LoadError}
use Rattle.host_files.specs.declared.loaded.LoadError.TheVariants as load

-- ---- limits

-- the most bytes that are read of a source
abbrev pub most_source : ℕ
most_source = 2097152

-- of a snapshot
abbrev pub most_snapshot : ℕ
most_snapshot = 16777216

-- of a file
abbrev pub most_file : ℕ
most_file = 4194304

-- and of all files of a script
abbrev pub most_files : ℕ
most_files = 268435456

-- ---- causes

-- how often a store failed, and how often it reported a file absent or too long
pub record Counts : Type 0 where
  pub faults : ℕ
  pub absences : ℕ

abbrev pub counts_of : ℕ → ℕ → Counts
counts_of faults absences = record { faults = faults; absences = absences }

-- why a file of at most so many bytes was not read: the store's faults or absences rose, or the told file is absent or too long
abbrev pub IsCause : Option Files → Counts → Counts → List ℕ → ℕ → ReadError → Type 0
IsCause told old new path most read.NotThere = IsAbsent told path ⊎ HasRisen old.absences new.absences
IsCause told old new path most read.TooLong = IsTooLong told path most ⊎ HasRisen old.absences new.absences
IsCause told old new path most read.Failed = HasRisen old.faults new.faults
IsCause told old new path most read.Memory = ⊥

-- the read that failed, where not all was read; none where memory was wanting
abbrev pub missed_by : LoadError → List Miss
missed_by (load.Unread path why) = record { path = path; why = why } ∷ []
missed_by load.Memory = []

abbrev pub missed_in : {X : Type 0} → Result X LoadError → List Miss
missed_in (Ok x) = []
missed_in (Err error) = missed_by error

-- ---- what was read

-- the bytes of what was read
abbrev pub bytes_in : {Z : Type 0} → Option (Vec ℕ Z) → Option (List ℕ)
bytes_in bytes = option_map (λ b. b.items) bytes

-- a tenant has what the store tells: its source, its files, and its snapshot, if it has one
pub record IsLoaded (told : Files) (line : TenantLine) (l : Loaded) : Type 0 where
  pub source : told line.source ≡ Some l.source.items
  pub files : AreFilesAt told line.files l.files
  pub snapshot : IsSnapshotAt told line.resume (bytes_in l.snapshot)

-- each tenant does
abbrev pub AreLoaded : Files → List TenantLine → List Loaded → Type 0
AreLoaded told [] [] = ⊤
AreLoaded told [] (t ∷ ts) = ⊥
AreLoaded told (l ∷ ls) [] = ⊥
AreLoaded told (l ∷ ls) (t ∷ ts) = IsLoaded told l t × AreLoaded told ls ts

-- ---- what is asked for

-- all file lines of a script, tenant by tenant
abbrev pub files_of : Script → List FileLine
files_of s = flat_map (λ t. t.files) s.tenants

-- the bytes of told files, added up
abbrev pub bytes_of : Files → List FileLine → ℕ
bytes_of told lines = sum_by (λ f. length (unwrap_or (told f.path) [])) lines

-- what is read for a script, and of how many bytes at most: the sources, the snapshots, and the files, of which each may have
-- what those before it leave
pub data IsAsked (told : Option Files) (s : Script) (path : List ℕ) (most : ℕ) : Type 0 where
  source : (n : ℕ) (t : TenantLine) → slice_get s.tenants n ≡ Some t → path ≡ t.source → most ≡ most_source → IsAsked told s path most
  file : (before after : List FileLine) (f : FileLine) → files_of s ≡ before ++ f ∷ after → path ≡ f.path →
      IfSome told (λ files. most ≡ min most_file (most_files - bytes_of files before)) → IsAsked told s path most
  snapshot : (n : ℕ) (t : TenantLine) → slice_get s.tenants n ≡ Some t → t.resume ≡ Some path → most ≡ most_snapshot → IsAsked told s path most

-- the file of a path that is read for a script was not read, for this
abbrev pub IsMissed : Option Files → Counts → Counts → Script → List ℕ → ReadError → Type 0
IsMissed told old new s path why = (most : ℕ) × IsAsked told s path most × IsCause told old new path most why

-- all that is read for a script is told, within its limits
abbrev pub IsAvailable : Files → Script → Type 0
IsAvailable files s = (path : List ℕ) (most : ℕ) → IsAsked (Some files) s path most → (bytes : List ℕ) × (files path ≡ Some bytes) × (length bytes ≤ most)
