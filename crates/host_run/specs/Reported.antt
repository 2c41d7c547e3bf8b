-- What the run of a script comes to (own).
use Rattle.std.specs.Prelude.{◌≡◌, ℕ, ◌<◌, Bool, List, length, map, slice_index_or}
use Rattle.std.specs.List.{list_any}
use Rattle.host_form.specs.fab_io.specs.Outside.{Files}
use Rattle.host_text.specs.declared.script.FabricLine.{FabricLine}
use Rattle.host_text.specs.declared.script.Script.{Script}
use Rattle.fab_rounds.specs.fab_bay.specs.declared.noted.NotedCore.{NotedCore}
use Rattle.fab_rounds.specs.fab_bay.specs.Ways.{AreBelow}
use Rattle.host_report.specs.fab_model.specs.Histories.{AreLinesByFirst, IsLegal}
use Rattle.host_form.specs.Reports.{blocks_of, IsReport}
use Rattle.host_form.specs.Saves.{LeavesFiles}
use Rattle.host_judge.specs.Judged.{judged}
use Rattle.host_run.specs.Rooms.{room_of}
use Rattle.host_outcomes.specs.Ends.{is_refusal}
use Rattle.host_outcomes.specs.Reported.{histories_for, AreOfThoseThatRun}
use Rattle.host_files.specs.Writes.{after_writes, writes_of}
use Rattle.host_run.specs.declared.reported.Reported.{Reported}

-- a fabric's bay: its history is legal for the room that the fabric's line says, tells of tenants below this number alone, and only the first seat
-- put tenants in line
pub record IsBayOf (number tenants : ℕ) (line : FabricLine) (b : NotedCore) : Type 0 where
  pub fabric : b.label.fabric ≡ number
  pub room : b.label.capacity ≡ room_of line.capacity
  pub legal : IsLegal number (room_of line.capacity) b.notes.items
  pub those : AreBelow tenants b.notes.items
  pub lines : AreLinesByFirst b.notes.items

-- each fabric of a script has its bay, which tells of no more tenants than the script has
pub record AreBays (s : Script) (bays : List NotedCore) : Type 0 where
  pub count : length bays ≡ length s.fabrics
  pub each : (g : ℕ) (d : FabricLine) (b : NotedCore) → g < length s.fabrics → IsBayOf g (length s.tenants) (slice_index_or s.fabrics g d) (slice_index_or bays g b)

-- over a store that tells these files: the text is the report of the script, by the histories of these bays, which tell of those tenants alone that
-- aren't refused; the blocks are those of the report; the snapshots are those that the runs keep
pub record IsReported (files : Files) (s : Script) (r : Reported) : Type 0 where
  pub refusals : List Bool
  pub report : IsReport judged files s (histories_for refusals r.bays.items) r.text.items
  pub refused : map is_refusal report.outcomes ≡ refusals
  pub those : AreOfThoseThatRun refusals r.bays.items
  pub blocks : r.blocks.items ≡ blocks_of s report.tenants report.outcomes
  pub any : r.refused ≡ list_any (λ x. x) refusals
  pub saves : LeavesFiles judged files s (histories_for refusals r.bays.items) r.text.items report (after_writes (writes_of s.tenants r.kept.items) files)
