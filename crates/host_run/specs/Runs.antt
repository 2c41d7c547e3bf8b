-- What a script that was run reports, and leaves to be written (own).
use Rattle.std.specs.Prelude.{◌≡◌, ℕ, Bool, if◌then◌else◌, List, map}
use Rattle.std.specs.List.{list_any}
use Rattle.host_form.specs.fab_io.specs.Outside.{Files}
use Rattle.fab_rounds.specs.fab_bay.specs.declared.noted.NotedCore.{NotedCore}
use Rattle.host_text.specs.declared.script.Script.{Script}
use Rattle.host_text.specs.declared.block.Block.{Block}
use Rattle.host_form.specs.Reports.{blocks_of, IsReport}
use Rattle.host_form.specs.Saves.{LeavesFiles}
use Rattle.host_judge.specs.Judged.{judged}
use Rattle.host_files.specs.Reading.{IsAvailable}
use Rattle.host_outcomes.specs.Ends.{is_refusal}
use Rattle.host_outcomes.specs.Reported.{histories_for, AreOfThoseThatRun}
use Rattle.host_files.specs.Writes.{after_writes, Write}

-- over a store that tells these files: all that is read for a script is there, within its limits; the text is its report, by the histories of
-- these bays, which tell of those tenants alone that aren't refused; 3 is the status where a tenant is refused, else 0; and the files that are due are the snapshots that its tenants' runs keep
pub record HasRun (files : Files) (s : Script) (status : ℕ) (text : List ℕ) (bays : List NotedCore) (writes : List Write) : Type 0 where
  pub available : IsAvailable files s
  pub refusals : List Bool
  pub report : IsReport judged files s (histories_for refusals bays) text
  pub refused : map is_refusal report.outcomes ≡ refusals
  pub those : AreOfThoseThatRun refusals bays
  pub status_is : status ≡ (if list_any (λ x. x) refusals then 3 else 0)
  pub saves : LeavesFiles judged files s (histories_for refusals bays) text report (after_writes writes files)

-- over a store that tells these files: a script has a report, by the histories of these bays, which tell of those tenants alone that aren't refused, and
-- these are its blocks
pub record HasBlocks (files : Files) (s : Script) (bays : List NotedCore) (blocks : List Block) : Type 0 where
  pub refusals : List Bool
  pub text : List ℕ
  pub report : IsReport judged files s (histories_for refusals bays) text
  pub refused : map is_refusal report.outcomes ≡ refusals
  pub those : AreOfThoseThatRun refusals bays
  pub are : blocks ≡ blocks_of s report.tenants report.outcomes
