-- What a store and a sink in memory hold.
use Rattle.std.specs.Prelude.{ℕ, List, [], ◌∷◌, Option, Some, None}
use Rattle.fab_io.specs.Outside.{Files, Miss, with_file}
use Rattle.fab_io.specs.Calls.{Calls}

-- a file's name and its bytes
pub record NamedBytes : Type 0 where
  pub name : List ℕ
  pub bytes : List ℕ

-- the files of a list, in which the first of a name counts
abbrev pub files_of : List NamedBytes → Files
files_of [] = λ _. None
files_of (file ∷ rest) = with_file file.name file.bytes (files_of rest)

-- the files that a store in memory tells, of those that it holds
abbrev pub told_files : List NamedBytes → Option Files
told_files files = Some (files_of files)

-- what a store in memory holds: its files, the calls of its reads and writes, and the reads that failed
pub record StoreMemory : Type 0 where
  pub files : List NamedBytes
  pub calls : Calls
  pub missed : List Miss

-- what a store that never fails holds: its files, and the reads of files that weren't there or were too long
pub record SteadyMemory : Type 0 where
  pub files : List NamedBytes
  pub missed : List Miss

-- what a sink in memory holds: the bytes taken, the most that a call takes, and the calls
pub record SinkMemory : Type 0 where
  pub taken : List ℕ
  pub piece : ℕ
  pub calls : Calls
