-- Tables whose rows name a file by its number, as tables of open files (IEEE 1364-2005, clause 17.2.1).
use Rattle.std.specs.Prelude.{ℕ, ◌+◌, ◌<◌, ◌≤◌, Bool, ◌||◌, nat_lt, List, [], ◌∷◌, length, All, Option, Some, None, slice_get, option_map, unwrap_or}
use Rattle.std.specs.Option.{ForSome}
use Rattle.vl_base.specs.declared.files.File.{File}
use Rattle.vl_base.specs.declared.files.OpenFile.{OpenFile}
use Rattle.vl_base.specs.Files.{contents}
use Rattle.ten_files.specs.declared.row.Row.{Row}

-- the name of the file of a number
abbrev pub name_at : List File → ℕ → List ℕ
name_at files number = unwrap_or (option_map (λ f. f.name) (slice_get files number)) []

-- its bytes, which are found by the name
abbrev pub bytes_at : List File → ℕ → List ℕ
bytes_at files number = unwrap_or (contents files (name_at files number)) []

-- a row that is told as a file's number, a place and an end flag
abbrev pub row_of : ℕ × ℕ × Bool → Row
row_of told = record { file = told.0; place = told.1; ended = told.2 }

-- a row at a slot, as an open file
abbrev pub open_row : List File → ℕ → Row → OpenFile
open_row files slot row = record { slot = slot; name = name_at files row.file; place = row.place; ended = row.ended }

-- the open files of rows, of which the first has this slot
abbrev pub open_from : List File → ℕ → List (Option Row) → List OpenFile
open_from files slot [] = []
open_from files slot (None ∷ rows) = open_from files (slot + 1) rows
open_from files slot (Some row ∷ rows) = open_row files slot row ∷ open_from files (slot + 1) rows

-- the open files of a table, which has a row for each slot
abbrev pub open_files : List File → List (Option Row) → List OpenFile
open_files files table = open_from files 0 table

-- a row behind a read that gave so many of n bytes
abbrev pub row_after : Row → ℕ → ℕ → Row
row_after row count n = record { file = row.file; place = row.place + count; ended = row.ended || nat_lt count n }

-- a row has the number of a file of the set, and a place that isn't past its end
pub record IsRowOf (files : List File) (row : Row) : Type 0 where
  pub there : row.file < length files
  pub within : row.place ≤ length (bytes_at files row.file)

-- a table of files of the set
abbrev pub IsTableOf : List File → List (Option Row) → Type 0
IsTableOf files table = All (λ row. ForSome row (IsRowOf files)) table
