-- What the host claims, status by status.
use Rattle.std.specs.Prelude.{◌≡◌, ◌≢◌, ℕ, ◌≤◌, List, [], ◌∷◌, ◌++◌, length, Option, Some, None, option_map, Ok, Err, ◌⊎◌}
use Rattle.host_form.specs.fab_io.specs.declared.store.ReadError.{ReadError}
use Rattle.host_form.specs.fab_io.specs.Outside.{Files, HasRisen, IsTold}
use Rattle.fab_rounds.specs.fab_bay.specs.declared.noted.NotedCore.{NotedCore}
use Rattle.host_text.specs.declared.script.Script.{Script}
use Rattle.host_text.specs.Reading.{reading}
use Rattle.host_files.specs.Reading.{most_source, IsAvailable, IsCause, IsMissed}
use Rattle.host_files.specs.Writes.{after_writes, LeavesFront, LosesOne, Write}
use Rattle.host_run.specs.Reported.{AreBays}
use Rattle.host_run.specs.Runs.{HasRun}
use Rattle.host_run.specs.Taking.{Takes}
use Rattle.host_check.specs.Checks.{IsCheck}
use Rattle.host_run.specs.Demos.{IsShown}
use Rattle.host_run.specs.Words.{command_of, path_of, Command, Run, Check}
use Rattle.host_run.specs.Lines.{fault, unread, usage}
use Rattle.host_run.specs.Due.{IsDue, Outside, most_of, most_script}

-- statuses 0 and 3 of `run`: the words name a script, whose bytes are within the limit of what is read, and which has a reading; the bays are those
-- of its fabrics; and, where the store tells its files, the sink has taken the report of the script by the histories of these bays, and the told files
-- are those before, with each snapshot written that its tenants' runs keep
pub record HasReported (words : List (List ℕ)) (a b : Outside) (bays : List NotedCore) (status : ℕ) : Type 0 where
  pub path : List ℕ
  pub bytes : List ℕ
  pub script : Script
  pub report : List ℕ
  pub writes : List Write
  pub command : command_of words ≡ Some (Run path)
  pub read : IsTold a.told path bytes
  pub short : length bytes ≤ most_script
  pub reads : reading bytes ≡ Ok script
  pub fabrics : AreBays script bays
  pub ran : (files : Files) → a.told ≡ Some files → HasRun files script status report bays writes
  pub takes : Takes a.taken b.taken report
  pub files : b.told ≡ option_map (after_writes writes) a.told

-- statuses 0 and 3 of `check`: the words name a source, whose bytes are within the limit of what is read, and the sink has taken what is said of
-- them, as they are judged; no told file changes, and no bay is there
pub record HasJudged (words : List (List ℕ)) (a b : Outside) (bays : List NotedCore) (status : ℕ) : Type 0 where
  pub path : List ℕ
  pub bytes : List ℕ
  pub said : List ℕ
  pub command : command_of words ≡ Some (Check path)
  pub read : IsTold a.told path bytes
  pub short : length bytes ≤ most_source
  pub check : IsCheck bytes status said
  pub takes : Takes a.taken b.taken said
  pub files : b.told ≡ a.told
  pub none : bays ≡ []

-- status 0 of `demo`: the sink has taken the summary of a run of the demonstration with so many tenants, over its own sources, on these bays; no told
-- file changes
pub record HasShown (tenants : ℕ) (a b : Outside) (bays : List NotedCore) : Type 0 where
  pub text : List ℕ
  pub shown : IsShown tenants text bays
  pub takes : Takes a.taken b.taken text
  pub files : b.told ≡ a.told

-- status 2: the words are no command, and the sink has taken the usage; no told file changes, and no bay is there
pub record IsMisused (words : List (List ℕ)) (a b : Outside) (bays : List NotedCore) : Type 0 where
  pub command : command_of words ≡ None
  pub takes : Takes a.taken b.taken usage
  pub files : b.told ≡ a.told
  pub none : bays ≡ []

-- status 4: the told script, which is within that limit, has a fault, and the sink has taken the line that says where and which; no told
-- file changes, and no bay is there
pub record HasMisread (words : List (List ℕ)) (a b : Outside) (bays : List NotedCore) : Type 0 where
  pub path : List ℕ
  pub bytes : List ℕ
  pub line : ℕ
  pub cause : ℕ
  pub command : command_of words ≡ Some (Run path)
  pub read : IsTold a.told path bytes
  pub short : length bytes ≤ most_script
  pub faulty : reading bytes ≡ Err (line, cause)
  pub takes : Takes a.taken b.taken (fault line cause)
  pub files : b.told ≡ a.told
  pub none : bays ≡ []

-- a read that failed: that of the file that the command names, or one for a script that was read
pub data IsUnread (words : List (List ℕ)) (a b : Outside) (path : List ℕ) (why : ReadError) : Type 0 where
  named : (c : Command) → command_of words ≡ Some c → path_of c ≡ Some path → IsCause a.told a.counts b.counts path (most_of c) why → IsUnread words a b path why
  file : {script_path : List ℕ} (bytes : List ℕ) {s : Script} → command_of words ≡ Some (Run script_path) → IsTold a.told script_path bytes → length bytes ≤ most_script →
      reading bytes ≡ Ok s → IsMissed a.told a.counts b.counts s path why → IsUnread words a b path why

-- status 5: a read of this path failed for this cause, and no other read of the call did, and the sink has taken the line that says so; no told
-- file changes, and no bay is there
pub record HasMissed (words : List (List ℕ)) (a b : Outside) (bays : List NotedCore) : Type 0 where
  pub path : List ℕ
  pub why : ReadError
  pub cause : IsUnread words a b path why
  pub only : b.missed ≡ a.missed ++ record { path = path; why = why } ∷ []
  pub takes : Takes a.taken b.taken (unread path why)
  pub files : b.told ≡ a.told
  pub none : bays ≡ []

-- status 6, where the sink failed: it has taken the front of what was due, and no told file changes
pub record IsCut (words : List (List ℕ)) (a b : Outside) (bays : List NotedCore) : Type 0 where
  pub status : ℕ
  pub front : List ℕ
  pub rest : List ℕ
  pub writes : List Write
  pub due : IsDue a.told a.counts b.counts a.missed b.missed words status (front ++ rest) bays writes
  pub takes : Takes a.taken b.taken front
  pub files : b.told ≡ a.told
  pub sink : HasRisen a.failures b.failures

-- status 6, where the store failed, and no read of the call did: the sink has taken all that was due, with status 0 or 3, and of the files that were
-- due to be written one failed, behind those before it
pub record IsUnsaved (words : List (List ℕ)) (a b : Outside) (bays : List NotedCore) : Type 0 where
  pub status : ℕ
  pub text : List ℕ
  pub writes : List Write
  pub due : IsDue a.told a.counts b.counts a.missed b.missed words status text bays writes
  pub ran : (status ≡ 0) ⊎ (status ≡ 3)
  pub takes : Takes a.taken b.taken text
  pub files : LosesOne writes a.told b.told
  pub store : HasRisen a.counts.faults b.counts.faults
  pub read : b.missed ≡ a.missed

-- status 6: so it is, the one or the other
abbrev pub HasFailed : List (List ℕ) → Outside → Outside → List NotedCore → Type 0
HasFailed words a b bays = IsCut words a b bays ⊎ IsUnsaved words a b bays

-- status 7, where something was due: the sink has taken the front of it, and a front of its files is written, none of them where the sink
-- hasn't taken all
pub record TakesFront (words : List (List ℕ)) (a b : Outside) (bays : List NotedCore) : Type 0 where
  pub status : ℕ
  pub front : List ℕ
  pub rest : List ℕ
  pub writes : List Write
  pub due : IsDue a.told a.counts b.counts a.missed b.missed words status (front ++ rest) bays writes
  pub takes : Takes a.taken b.taken front
  pub files : LeavesFront writes a.told b.told
  pub order : rest ≢ [] → b.told ≡ a.told

-- status 7: so it is, or nothing is taken, and no told file changes
abbrev pub IsStarved : List (List ℕ) → Outside → Outside → List NotedCore → Type 0
IsStarved words a b bays = ((b.taken ≡ a.taken) × (b.told ≡ a.told)) ⊎ TakesFront words a b bays

-- the words are this command, and the file that it names is told, within its limit
pub record IsGiven (told : Option Files) (words : List (List ℕ)) (c : Command) (bytes : List ℕ) : Type 0 where
  pub files : Files
  pub path : List ℕ
  pub command : command_of words ≡ Some c
  pub names : path_of c ≡ Some path
  pub tells : told ≡ Some files
  pub there : files path ≡ Some bytes
  pub short : length bytes ≤ most_of c

-- so it is of a script, which has a reading, and all that is read for it is told, within its limits
pub record IsServed (told : Option Files) (words : List (List ℕ)) : Type 0 where
  pub path : List ℕ
  pub bytes : List ℕ
  pub script : Script
  pub given : IsGiven told words (Run path) bytes
  pub reads : reading bytes ≡ Ok script
  pub available : IsAvailable given.files script

-- so it is of a script, which has no reading
pub record IsFaulty (told : Option Files) (words : List (List ℕ)) : Type 0 where
  pub path : List ℕ
  pub bytes : List ℕ
  pub line : ℕ
  pub cause : ℕ
  pub given : IsGiven told words (Run path) bytes
  pub faulty : reading bytes ≡ Err (line, cause)

-- so it is of a source
pub record IsCheckable (told : Option Files) (words : List (List ℕ)) : Type 0 where
  pub path : List ℕ
  pub bytes : List ℕ
  pub given : IsGiven told words (Check path) bytes
