-- Snapshots of runs as they are written and read (own).
use Rattle.std.specs.Prelude.{ℕ, List, map}
use Rattle.std.specs.List.{AllByRecursion}
use Rattle.vl_design.specs.Snapshots as run
use Rattle.vl_design.specs.Syntax.{Row}
use Rattle.snap_form.specs.declared.snapshot.SnapRow.{SnapRow}
use Rattle.snap_form.specs.declared.snapshot.Snapshot.{Snapshot}
use Rattle.snap_form.specs.Spelling.{IsRow, spelt}

abbrev pub row_of : run.SnapRow → SnapRow
row_of r = record { name = r.name; width = r.width; words = r.words }

-- the rows of a snapshot of a design with these signals
abbrev pub rows_of : List Row → List SnapRow
rows_of rows = map row_of (run.snap_rows rows)

-- their names have at most 255 bytes, and their widths are from 1 to 128
abbrev pub HasRows : List Row → Type 0
HasRows rows = AllByRecursion IsRow (rows_of rows)

-- a snapshot of a run, as it is written
abbrev pub written : run.Snapshot → Snapshot
written s = record { tick = s.tick; rows = map row_of s.rows; words = s.words; files = s.files }

abbrev pub bytes_of : run.Snapshot → List ℕ
bytes_of s = spelt (written s)

abbrev pub kept_row : SnapRow → run.SnapRow
kept_row r = record { name = r.name; width = r.width; words = r.words }

-- a snapshot that was read, as runs begin with it
abbrev pub kept : Snapshot → run.Snapshot
kept s = record { tick = s.tick; rows = map kept_row s.rows; words = s.words; files = s.files }
