-- What is held at a boundary, as the run alone knows it (own).
use Rattle.std.specs.Prelude.{List}
use Rattle.vl_design.specs.Alone as alone
use Rattle.vl_design.specs.Snapshots as run
use Rattle.vl_design.specs.Snapshots.{snap_rows}
use Rattle.vl_design.specs.Syntax.{Row}
use Rattle.ten_plan.specs.declared.held.Held.{Held}
use Rattle.ten_plan.specs.declared.held.Saved.{Saved}
use Rattle.ten_plan.specs.declared.held.FreeSave.{FreeSave}

-- the snapshot of a design of these signals
abbrev pub snapshot_of : List Row → Held → run.Snapshot
snapshot_of rows h = record { tick = h.tick; rows = snap_rows rows; words = h.words; files = h.files }

abbrev pub saved_of : List Row → Saved → run.Saved
saved_of rows s = record { name = s.name; snapshot = snapshot_of rows s.held }

abbrev pub free_of : FreeSave → alone.FreeSave
free_of f = record { name = f.name; tick = f.tick }
