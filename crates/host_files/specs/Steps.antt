-- What comes of reading a file, a tenant's files, and a tenant.
use Rattle.std.specs.Prelude.{◌≡◌, ℕ, ◌+◌, ◌-◌, ◌≤◌, List, [], ◌∷◌, ◌++◌, length, min, Option, Some, None, IfSome, ⊤}
use Rattle.host_form.specs.fab_io.specs.declared.store.ReadError.{ReadError}
use Rattle.host_form.specs.fab_io.specs.Outside.{Files, IsTold}
use Rattle.ten_core.specs.vl_base.specs.declared.files.File.{File}
use Rattle.host_form.specs.host_text.specs.declared.script.FileLine.{FileLine}
use Rattle.host_form.specs.host_text.specs.declared.script.TenantLine.{TenantLine}
use Rattle.host_files.specs.Reading.{Counts, IsCause, bytes_of, most_file, most_source, most_snapshot}

-- the file of a line stands behind those that were there, with the bytes that are told at its path: at most the lesser of a file's
-- limit and the room, from which they are taken
pub record IsAdded (told : Option Files) (line : FileLine) (old new : List File) (before after : ℕ) : Type 0 where
  pub bytes : List ℕ
  pub is : new ≡ old ++ record { name = line.name; bytes = bytes } ∷ []
  pub told_at : IsTold told line.path bytes
  pub short : length bytes ≤ min most_file before
  pub room : after + length bytes ≡ before

-- one of a tenant's files was not read, which might have what those before it leave of a room
pub record IsFileMissed (told : Option Files) (old new : Counts) (room : ℕ) (lines : List FileLine) (path : List ℕ) (why : ReadError) : Type 0 where
  pub before : List FileLine
  pub file : FileLine
  pub after : List FileLine
  pub is : lines ≡ before ++ file ∷ after
  pub asked : path ≡ file.path
  pub most : ℕ
  pub limit : IfSome told (λ files. most ≡ min most_file (room - bytes_of files before))
  pub cause : IsCause told old new path most why

-- something of a tenant was not read
pub data IsPartMissed (told : Option Files) (old new : Counts) (room : ℕ) (t : TenantLine) (path : List ℕ) (why : ReadError) : Type 0 where
  source : path ≡ t.source → IsCause told old new path most_source why → IsPartMissed told old new room t path why
  file : IsFileMissed told old new room t.files path why → IsPartMissed told old new room t path why
  snapshot : t.resume ≡ Some path → IsCause told old new path most_snapshot why → IsPartMissed told old new room t path why

-- ---- what was read is within its limits

-- a file is told, of at most so many bytes
abbrev pub IsWithin : Files → List ℕ → ℕ → Type 0
IsWithin told path most = (bytes : List ℕ) × (told path ≡ Some bytes) × (length bytes ≤ most)

-- each of these files is, of at most what those before it leave of a room
abbrev pub AreWithin : Files → ℕ → List FileLine → Type 0
AreWithin told room lines = (before after : List FileLine) (file : FileLine) → lines ≡ before ++ file ∷ after
    → IsWithin told file.path (min most_file (room - bytes_of told before))

-- a tenant's snapshot is, if it has one
abbrev pub IsSnapshotWithin : Files → Option (List ℕ) → Type 0
IsSnapshotWithin told None = ⊤
IsSnapshotWithin told (Some path) = IsWithin told path most_snapshot

-- and all that is read of a tenant is
pub record IsTenantWithin (told : Files) (room : ℕ) (t : TenantLine) : Type 0 where
  pub source : IsWithin told t.source most_source
  pub files : AreWithin told room t.files
  pub snapshot : IsSnapshotWithin told t.resume
