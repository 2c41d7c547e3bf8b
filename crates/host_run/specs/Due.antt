-- What the host is due to print, and with which status.
use Rattle.std.specs.Prelude.{◌≡◌, ℕ, ◌≤◌, List, [], ◌∷◌, ◌++◌, length, take, Option, Some, None, option_map, Ok, Err, ◌⊎◌}
use Rattle.host_form.specs.fab_io.specs.declared.store.ReadError.{ReadError}
use Rattle.host_form.specs.fab_io.specs.Outside.{Files, HasRisen, IsTold, Miss}
use Rattle.fab_rounds.specs.fab_bay.specs.declared.noted.NotedCore.{NotedCore}
use Rattle.host_text.specs.declared.script.Script.{Script}
use Rattle.host_text.specs.Reading.{reading}
use Rattle.host_files.specs.Reading.{counts_of, most_source, Counts, IsCause, IsMissed}
use Rattle.host_files.specs.Writes.{after_writes, LeavesFront, LosesOne, Write}
use Rattle.host_run.specs.Reported.{AreBays}
use Rattle.host_run.specs.Runs.{HasRun}
use Rattle.host_run.specs.Taking.{Takes}
use Rattle.host_check.specs.Checks.{IsCheck}
use Rattle.host_run.specs.Demos.{IsShown}
use Rattle.host_run.specs.Words.{command_of, path_of, Command, Run, Check, Demo}
use Rattle.host_run.specs.Lines.{fault, unread, usage}
use Rattle.host_form.specs.fab_io.specs.declared.store.Store.{Ghosts as StoreGhosts}
use Rattle.host_form.specs.fab_io.specs.declared.sink.Sink.{Ghosts as SinkGhosts}

-- the most bytes that are read of a script
abbrev pub most_script : ℕ
most_script = 1048576

-- of the file that a command names
abbrev pub most_of : Command → ℕ
most_of (Run path) = most_script
most_of (Check path) = most_source
most_of (Demo tenants) = 0

-- what is due with which status, which bays are handed out, and which files are to be written, for these words, over a store that tells
-- these files, where reads that failed before the call are followed by those of the call: by none, or, where a file was not read, by that of this file alone
pub data IsDue (told : Option Files) (old new : Counts) (before after : List Miss) (words : List (List ℕ)) (status : ℕ) (text : List ℕ) (bays : List NotedCore) (writes : List Write) : Type 0 where
  ran : {path : List ℕ} (bytes : List ℕ) {script : Script} → (status ≡ 0) ⊎ (status ≡ 3) → command_of words ≡ Some (Run path) → IsTold told path bytes →
      length bytes ≤ most_script → reading bytes ≡ Ok script → AreBays script bays →
      ((files : Files) → told ≡ Some files → HasRun files script status text bays writes) → after ≡ before → IsDue told old new before after words status text bays writes
  checked : {path : List ℕ} (bytes : List ℕ) → (status ≡ 0) ⊎ (status ≡ 3) → command_of words ≡ Some (Check path) → IsTold told path bytes →
      length bytes ≤ most_source → IsCheck bytes status text → bays ≡ [] → writes ≡ [] → after ≡ before → IsDue told old new before after words status text bays writes
  shown : {tenants : ℕ} → status ≡ 0 → command_of words ≡ Some (Demo tenants) → IsShown tenants text bays → writes ≡ [] → after ≡ before → IsDue told old new before after words status text bays writes
  misused : status ≡ 2 → command_of words ≡ None → text ≡ usage → bays ≡ [] → writes ≡ [] → after ≡ before → IsDue told old new before after words status text bays writes
  misread : {path : List ℕ} (bytes : List ℕ) {line cause : ℕ} → status ≡ 4 → command_of words ≡ Some (Run path) → IsTold told path bytes →
      length bytes ≤ most_script → reading bytes ≡ Err (line, cause) → text ≡ fault line cause → bays ≡ [] → writes ≡ [] → after ≡ before → IsDue told old new before after words status text bays writes
  unread_named : {path : List ℕ} (c : Command) (why : ReadError) → status ≡ 5 → command_of words ≡ Some c → path_of c ≡ Some path →
      IsCause told old new path (most_of c) why → text ≡ unread path why → bays ≡ [] → writes ≡ [] → after ≡ before ++ record { path = path; why = why } ∷ [] → IsDue told old new before after words status text bays writes
  unread_file : {path : List ℕ} (bytes asked : List ℕ) {script : Script} (why : ReadError) → status ≡ 5 → command_of words ≡ Some (Run path) → IsTold told path bytes →
      length bytes ≤ most_script → reading bytes ≡ Ok script → IsMissed told old new script asked why → text ≡ unread asked why → bays ≡ [] → writes ≡ [] →
      after ≡ before ++ record { path = asked; why = why } ∷ [] → IsDue told old new before after words status text bays writes

-- ---- what comes of a call

-- what a store and a sink tell and count before a call, or after it, and the reads that failed before
pub record Outside : Type 0 where
  pub told : Option Files
  pub counts : Counts
  pub missed : List Miss
  pub taken : Option (List ℕ)
  pub failures : ℕ

abbrev pub outside : Option Files → (faults absences : ℕ) → List Miss → Option (List ℕ) → ℕ → Outside
outside told faults absences missed taken failures = record { told = told; counts = counts_of faults absences; missed = missed; taken = taken; failures = failures }

-- what a store and a sink tell of themselves
abbrev pub around : {S K : Type 0} → StoreGhosts S → SinkGhosts K → S → K → Outside
around tells takes store sink = outside (tells.told store) (tells.faults store) (tells.absences store) (tells.missed store) (takes.taken sink) (takes.faults sink)

-- what came of writing a text that has this status, with files behind it: all was written; or the sink failed, or memory, after a front of
-- the text; or memory, after the text and a front of the files; or the store failed, in one of these
pub data Wrote (text : List ℕ) (status : ℕ) (writes : List Write) (a b : Outside) (result : ℕ) : Type 0 where
  all : result ≡ status → Takes a.taken b.taken text → b.told ≡ option_map (after_writes writes) a.told → Wrote text status writes a b result
  cut : (n : ℕ) → Takes a.taken b.taken (take n text) → b.told ≡ a.told → result ≡ 6 → HasRisen a.failures b.failures → Wrote text status writes a b result
  short : (n : ℕ) → Takes a.taken b.taken (take n text) → b.told ≡ a.told → result ≡ 7 → Wrote text status writes a b result
  unsaved : Takes a.taken b.taken text → LeavesFront writes a.told b.told → result ≡ 7 → Wrote text status writes a b result
  lost : Takes a.taken b.taken text → LosesOne writes a.told b.told → result ≡ 6 → HasRisen a.counts.faults b.counts.faults → Wrote text status writes a b result

-- what came of a call: something was due and was written, with these bays handed out; or memory was wanting before
pub data Outcome (words : List (List ℕ)) (a b : Outside) (bays : List NotedCore) (result : ℕ) : Type 0 where
  wrote : {status : ℕ} {text : List ℕ} {writes : List Write} → IsDue a.told a.counts b.counts a.missed b.missed words status text bays writes → Wrote text status writes a b result → Outcome words a b bays result
  starved : result ≡ 7 → b.taken ≡ a.taken → b.told ≡ a.told → Outcome words a b bays result
