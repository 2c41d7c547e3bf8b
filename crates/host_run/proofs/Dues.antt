-- What is due, as the code makes it.
use Rattle.std.proofs.Common.{◌≡◌, ◌≤◌, ℕ, Bool, true, false, List, [], ◌∷◌, ◌++◌, length, Result, Ok, Err, append-nil, refl, sym, ap, ◌∙◌, subst, inl, inr, arith}
use Rattle.std.specs.Prelude.{◌≢◌, Option, Some, IfOk, IfSome, OnOk, Vec, if◌then◌else◌, ◌⊎◌}
use Rattle.std.specs.List.{AllByRecursion}
use Rattle.host_form.specs.fab_io.specs.declared.store.ReadError.{ReadError}
use Rattle.host_form.specs.fab_io.specs.declared.store.ReadError.TheVariants as read
use Rattle.host_form.specs.fab_io.specs.Outside.{Files, HasRisen, IsAbsent, IsTold, IsTooLong, Miss, miss_of, misses}
use Rattle.fab_rounds.specs.fab_bay.specs.declared.noted.NotedCore.{NotedCore}
use Rattle.host_text.specs.declared.script.Script.{Script}
use Rattle.host_text.specs.Laws.{IsSpelt, IsSpeltTenant}
use Rattle.host_text.specs.Reading.{reading}
use Rattle.host_files.specs.declared.loaded.Loaded.{Loaded}
use Rattle.host_form.specs.Origins.{Source, Accepted, Faulty}
use Rattle.host_files.specs.Reading.{most_source, counts_of, AreLoaded, Counts, IsAvailable, IsCause, IsMissed}
use Rattle.host_files.specs.Kept.{CanBeKept}
use Rattle.host_files.specs.Writes.{writes_of, Write}
use Rattle.host_run.specs.declared.reported.Reported.{Reported}
use Rattle.host_run.specs.Reported.{AreBays, IsReported}
use Rattle.host_run.specs.Runs.{HasRun}
use Rattle.host_check.specs.Checks.{check_status, IsCheck}
use Rattle.host_demo.specs.Sources.{files_of}
use Rattle.host_demo.specs.Summary.{summary}
use Rattle.host_demo.specs.Texts as demo
use Rattle.host_run.specs.declared.due.Due.{Due}
use Rattle.host_run.specs.Demos.{IsShown, IsSummed}
use Rattle.host_run.specs.Words.{command_of, path_of, Command, Run, Check, Demo}
use Rattle.host_run.specs.Lines.{fault, unread}
use Rattle.host_run.specs.Due.{ran, checked, shown, misread, unread_named, unread_file, most_of, most_script}
use Rattle.host_run.specs.Dues.{writes_due, IsDueBy, IsOnly, KeepsNothing, CanBeWritten}
use Rattle.host_run.proofs.Parsing.{some-same}
use Rattle.host_run.proofs.Serving.{due-before}

-- ---- a script that was run

items-same : {A Z : Type 0} {v w : Vec A Z} → v ≡ w → v.items ≡ w.items
items-same {A} {Z} e = ap (λ (v : Vec A Z). v.items) e

zero-or-three : (refused : Bool) (status : ℕ) → status ≡ (if refused then 3 else 0) → (status ≡ 0) ⊎ (status ≡ 3)
zero-or-three true status e = inr e
zero-or-three false status e = inl e

as-reported : (files : Files) (s : Script) (r : Reported) → IsAvailable files s → IsReported files s r → HasRun files s (if r.refused then 3 else 0) r.text.items r.bays.items (writes_of s.tenants r.kept.items)
as-reported files s r a h = record { available = a; refusals = h.refusals; report = h.report; refused = h.refused; those = h.those; status_is = ap (λ (b : Bool). if b then 3 else 0) h.any; saves = h.saves }

has-run : (files : Files) (s : Script) (r : Reported) (status : ℕ) (text : List ℕ) (bays : List NotedCore) (writes : List Write) → status ≡ (if r.refused then 3 else 0) → text ≡ r.text.items
    → bays ≡ r.bays.items → writes ≡ writes_of s.tenants r.kept.items → IsAvailable files s → IsReported files s r → HasRun files s status text bays writes
has-run files s r status text bays writes e t b w a h =
    subst (λ (x : ℕ). HasRun files s x text bays writes) (sym e)
    (subst (λ (x : List ℕ). HasRun files s (if r.refused then 3 else 0) x bays writes) (sym t)
    (subst (λ (x : List NotedCore). HasRun files s (if r.refused then 3 else 0) r.text.items x writes) (sym b)
    (subst (λ (x : List Write). HasRun files s (if r.refused then 3 else 0) r.text.items r.bays.items x) (sym w) (as-reported files s r a h))))

pub run-due : (told : Option Files) (old new : Counts) (before after : List Miss) (words : List (List ℕ)) (s : Script) (loaded : List Loaded) (r : Reported) (d : Due) {path : List ℕ} (bytes : List ℕ)
    → d.status ≡ (if r.refused then 3 else 0) → d.text ≡ r.text → d.tenants ≡ s.tenants → d.kept ≡ r.kept → d.bays ≡ r.bays
    → command_of words ≡ Some (Run path) → IsTold told path bytes → length bytes ≤ most_script → reading bytes ≡ Ok s → AreBays s r.bays.items
    → IfSome told (λ files. AreLoaded files s.tenants loaded) → IfSome told (λ files. IsAvailable files s) → ((files : Files) → AreLoaded files s.tenants loaded → IsReported files s r) → after ≡ before
    → IsDueBy told old new before after words d
run-due told old new before after words s loaded r d bytes status text tenants kept bays command there short reads fabrics all there-all reported none =
    ran bytes (zero-or-three r.refused d.status status) command there short reads (subst (AreBays s) (sym (items-same bays)) fabrics)
    (λ files tells.
    has-run files s r d.status d.text.items d.bays.items (writes_due d) status (items-same text) (items-same bays)
    (ap (λ ts. writes_of ts d.kept.items) tenants ∙ ap (λ ks. writes_of s.tenants ks) (items-same kept))
    (subst (λ (t : Option Files). IfSome t (λ files. IsAvailable files s)) tells there-all)
    (reported files (subst (λ (t : Option Files). IfSome t (λ files. AreLoaded files s.tenants loaded)) tells all)))
    none

pub run-written : (s : Script) (r : Reported) (d : Due) → d.tenants ≡ s.tenants → d.kept ≡ r.kept → IsSpelt s → length r.kept.items ≡ length s.tenants → AllByRecursion CanBeKept r.kept.items
    → CanBeWritten d
run-written s r d tenants kept spelt count all = record {
  count = ap length (items-same kept) ∙ count ∙ sym (ap length tenants);
  names = subst (AllByRecursion IsSpeltTenant) (sym tenants) spelt.tenants;
  kept = subst (AllByRecursion CanBeKept) (sym (items-same kept)) all;
}

-- ---- a text alone

no-writes : (d : Due) → d.tenants ≡ [] → writes_due d ≡ []
no-writes d e = ap (λ ts. writes_of ts d.kept.items) e

pub fault-due : (told : Option Files) (old new : Counts) (missed : List Miss) (words : List (List ℕ)) (d : Due) {path : List ℕ} (bytes : List ℕ) {text : List ℕ} {line cause : ℕ} → IsOnly 4 text d → text ≡ fault line cause
    → command_of words ≡ Some (Run path) → IsTold told path bytes → length bytes ≤ most_script → reading bytes ≡ Err (line, cause) → IsDueBy told old new missed missed words d
fault-due told old new missed words d bytes o e command there short faulty =
    misread bytes o.status_is command there short faulty (o.text_is ∙ e) o.bays (no-writes d o.tenants) refl

pub unread-named-due : (told : Option Files) (old new : Counts) (before after : List Miss) (words : List (List ℕ)) (d : Due) (c : Command) (path : List ℕ) {text : List ℕ} (why : ReadError) → IsOnly 5 text d → text ≡ unread path why
    → command_of words ≡ Some c → path_of c ≡ Some path → IsCause told old new path (most_of c) why → after ≡ before ++ record { path = path; why = why } ∷ []
    → IsDueBy told old new before after words d
unread-named-due told old new before after words d c path why o e command names cause only =
    unread_named c why o.status_is command names cause (o.text_is ∙ e) o.bays (no-writes d o.tenants) only

pub unread-file-due : (told : Option Files) (old new : Counts) (before after : List Miss) (words : List (List ℕ)) (s : Script) (d : Due) {path : List ℕ} (bytes asked : List ℕ) {text named : List ℕ} (why : ReadError) → IsOnly 5 text d
    → text ≡ unread named why → named ≡ asked → command_of words ≡ Some (Run path) → IsTold told path bytes → length bytes ≤ most_script → reading bytes ≡ Ok s → IsMissed told old new s asked why
    → after ≡ before ++ record { path = asked; why = why } ∷ [] → IsDueBy told old new before after words d
unread-file-due told old new before after words s d bytes asked why o e n command there short reads missed only =
    unread_file bytes asked why o.status_is command there short reads missed (o.text_is ∙ e ∙ ap (λ x. unread x why) n) o.bays (no-writes d o.tenants) only

-- ---- what a call answers

-- why a read failed that wasn't for want of memory
cause-of : (told : Option Files) (old new : Counts) (path : List ℕ) (most : ℕ) (why : ReadError) → why ≢ read.Memory
    → (why ≡ read.NotThere → IsAbsent told path ⊎ HasRisen old.absences new.absences)
    → (why ≡ read.TooLong → IsTooLong told path most ⊎ HasRisen old.absences new.absences)
    → (why ≡ read.Failed → HasRisen old.faults new.faults) → IsCause told old new path most why
cause-of told old new path most read.NotThere m n t f = n refl
cause-of told old new path most read.TooLong m n t f = t refl
cause-of told old new path most read.Failed m n t f = f refl
cause-of told old new path most read.Memory m n t f = absurd (m refl)

-- and that read is noted
one-missed : (path : List ℕ) (why : ReadError) → why ≢ read.Memory → miss_of path why ≡ record { path = path; why = why } ∷ []
one-missed path read.NotThere m = refl
one-missed path read.TooLong m = refl
one-missed path read.Failed m = refl
one-missed path read.Memory m = absurd (m refl)

pub due-unread : {E X : Type 0} (result : Result Due E) (answer : Result X ReadError) (told : Option Files) (old new : Counts) (before after : List Miss) (c : Command) (path : List ℕ) (why : ReadError)
    → path_of c ≡ Some path → answer ≡ Err why → after ≡ before ++ misses path answer → OnOk result (why ≢ read.Memory) → IfOk result (IsOnly 5 (unread path why))
    → (why ≡ read.NotThere → IsAbsent told path ⊎ HasRisen old.absences new.absences)
    → (why ≡ read.TooLong → IsTooLong told path (most_of c) ⊎ HasRisen old.absences new.absences)
    → (why ≡ read.Failed → HasRisen old.faults new.faults)
    → IfOk result (λ d. (words : List (List ℕ)) → command_of words ≡ Some c → IsDueBy told old new before after words d)
due-unread {E} {X} (Ok d) answer told old new before after c path why names is noted m o n t f = λ words command.
    let only : after ≡ before ++ record { path = path; why = why } ∷ [] =
    noted ∙ ap (λ (r : Result X ReadError). before ++ misses path r) is ∙ ap (λ (ms : List Miss). before ++ ms) (one-missed path why m) in
    unread-named-due told old new before after words d c path why o refl command names (cause-of told old new path (most_of c) why m n t f) only
due-unread (Err e) answer told old new before after c path why names is noted m o n t f = o

-- a read that gave bytes is not noted
pub not-noted : {X : Type 0} (answer : Result X ReadError) (before after : List Miss) (path : List ℕ) (x : X) → answer ≡ Ok x → after ≡ before ++ misses path answer → after ≡ before
not-noted {X} answer before after path x is noted = noted ∙ ap (λ (r : Result X ReadError). before ++ misses path r) is ∙ append-nil before

-- ---- a source that was checked

zero-or-three-of : (x : Source) (status : ℕ) → status ≡ check_status x → (status ≡ 0) ⊎ (status ≡ 3)
zero-or-three-of (Accepted d) status e = inl e
zero-or-three-of (Faulty place kind) status e = inr e

pub due-checked : {E : Type 0} (result : Result Due E) (told : Option Files) (old new : Counts) (before after : List Miss) (path bytes : List ℕ) → after ≡ before → IfOk result (λ d. IsOnly d.status d.text.items d)
    → IfOk result (λ d. IsCheck bytes d.status d.text.items) → IsTold told path bytes → length bytes ≤ most_source
    → IfOk result (λ d. (words : List (List ℕ)) → command_of words ≡ Some (Check path) → IsDueBy told old new before after words d)
due-checked (Ok d) told old new before after path bytes none o k there short = λ words command.
    checked bytes (zero-or-three-of k.source d.status k.status_is) command there short k o.bays (no-writes d o.tenants) none
due-checked (Err e) told old new before after path bytes none o k there short = o

pub due-read : {E : Type 0} (result : Result Due E) (told : Option Files) (old new : Counts) (before after : List Miss) (s : Script) (bytes : List ℕ) → length bytes ≤ most_script → reading bytes ≡ Ok s
    → IfOk result (λ d. (words : List (List ℕ)) (path bytes : List ℕ) → command_of words ≡ Some (Run path) → IsTold told path bytes → length bytes ≤ most_script → reading bytes ≡ Ok s
    → IsDueBy told old new before after words d)
    → IfOk result (λ d. (words : List (List ℕ)) (path : List ℕ) → command_of words ≡ Some (Run path) → IsTold told path bytes → IsDueBy told old new before after words d)
due-read (Ok d) told old new before after s bytes short reads h = λ words path command there. h words path bytes command there short reads
due-read (Err e) told old new before after s bytes short reads h = h

pub due-told : {E : Type 0} (result : Result Due E) (told told' : Option Files) (old mid new : Counts) (before now after : List Miss) (path bytes : List ℕ) → told' ≡ told → old.faults ≤ mid.faults
    → old.absences ≤ mid.absences → now ≡ before → IsTold told path bytes
    → IfOk result (λ d. (words : List (List ℕ)) (path : List ℕ) → command_of words ≡ Some (Run path) → IsTold told' path bytes → IsDueBy told' mid new now after words d)
    → IfOk result (λ d. (words : List (List ℕ)) → command_of words ≡ Some (Run path) → IsDueBy told old new before after words d)
due-told (Ok d) told told' old mid new before now after path bytes e f a n there h = λ words command.
    due-before told told' old mid new before now after e f a n (h words path command (subst (λ (t : Option Files). IsTold t path bytes) (sym e) there))
due-told (Err x) told told' old mid new before now after path bytes e f a n there h = h

-- ---- the demonstration

pub due-shown : {E : Type 0} (result : Result Due E) (told : Option Files) (old new : Counts) (missed : List Miss) (tenants : ℕ) → IfOk result (λ d. IsShown tenants d.text.items d.bays.items) → IfOk result KeepsNothing
    → IfOk result (λ d. (words : List (List ℕ)) → command_of words ≡ Some (Demo tenants) → IsDueBy told old new missed missed words d)
due-shown (Ok d) told old new missed tenants h k = λ words command. shown k.status_is command h (no-writes d k.tenants) refl
due-shown (Err e) told old new missed tenants h k = tt

pub nothing-written : {E : Type 0} (result : Result Due E) → IfOk result KeepsNothing → IfOk result CanBeWritten
nothing-written (Ok d) k = record {
  count = ap length k.kept ∙ sym (ap length k.tenants);
  names = subst (AllByRecursion IsSpeltTenant) (sym k.tenants) tt;
  kept = subst (AllByRecursion CanBeKept) (sym k.kept) tt;
}
nothing-written (Err e) k = tt

-- a script that was run is summed
summed : (files : Files) (s : Script) (r : Reported) (bytes text : List ℕ) (bays : List NotedCore) → reading bytes ≡ Ok s → AreBays s r.bays.items → IsReported files s r
    → text ≡ summary r.blocks.items → bays ≡ r.bays.items → IsSummed files bytes text bays
summed files s r bytes text bays reads fabrics h is same = subst (λ (bs : List NotedCore). IsSummed files bytes text bs) (sym same) (record {
  script = s;
  reads = reads;
  fabrics = fabrics;
  blocks = r.blocks.items;
  ran = record { refusals = h.refusals; text = r.text.items; report = h.report; refused = h.refused; those = h.those; are = h.blocks };
  is = is;
})

pub due-summed : {E : Type 0} (result : Result Due E) (files : Files) (s : Script) (loaded : List Loaded) (r : Reported) → AreBays s r.bays.items
    → AreLoaded files s.tenants loaded → ((files : Files) → AreLoaded files s.tenants loaded → IsReported files s r)
    → IfOk result (λ d. d.text.items ≡ summary r.blocks.items) → IfOk result (λ d. d.bays.items ≡ r.bays.items)
    → IfOk result (λ d. (bytes : List ℕ) → reading bytes ≡ Ok s → IsSummed files bytes d.text.items d.bays.items)
due-summed (Ok d) files s loaded r fabrics there reported text bays = λ bytes reads.
    summed files s r bytes d.text.items d.bays.items reads fabrics (reported files there) text bays
due-summed (Err e) files s loaded r fabrics there reported text bays = tt

pub due-summed-of : {E : Type 0} (result : Result Due E) (files : Files) (s : Script) (bytes : List ℕ) → reading bytes ≡ Ok s
    → IfOk result (λ d. (bytes : List ℕ) → reading bytes ≡ Ok s → IsSummed files bytes d.text.items d.bays.items)
    → IfOk result (λ d. IsSummed files bytes d.text.items d.bays.items)
due-summed-of (Ok d) files s bytes reads h = h bytes reads
due-summed-of (Err e) files s bytes reads h = tt

pub due-shown-of : {E : Type 0} (result : Result Due E) (files : Files) (tenants : ℕ) (bytes : List ℕ) → bytes ≡ demo.script tenants → files ≡ files_of tenants
    → IfOk result (λ d. IsSummed files bytes d.text.items d.bays.items) → IfOk result (λ d. IsShown tenants d.text.items d.bays.items)
due-shown-of (Ok d) files tenants bytes same tells h =
    subst (λ (b : List ℕ). IsSummed (files_of tenants) b d.text.items d.bays.items) same
    (subst (λ (f : Files). IsSummed f bytes d.text.items d.bays.items) tells h)
due-shown-of (Err e) files tenants bytes same tells h = tt

-- ---- the demonstration's script has no fault, and each of its reads succeeds

-- bytes that have a reading have no other
pub one-script : (bytes : List ℕ) (s t : Script) → reading bytes ≡ Ok s → reading bytes ≡ Ok t → s ≡ t
one-script bytes s t e f = cc

pub not-risen : HasRisen 0 0 → ⊥
not-risen (inl l) = omega (arith, l)
not-risen (inr l) = omega (arith, l)

not-caused : (files : Files) (path bytes : List ℕ) (most : ℕ) (why : ReadError) → files path ≡ Some bytes → length bytes ≤ most → IsCause (Some files) (counts_of 0 0) (counts_of 0 0) path most why → ⊥
not-caused files path bytes most read.NotThere e l (inl none) = cc
not-caused files path bytes most read.NotThere e l (inr risen) = not-risen risen
not-caused files path bytes most read.TooLong e l (inl long) =
    let same : bytes ≡ long.0 = some-same (sym e ∙ long.1) in omega (arith, l, long.2, ap length same)
not-caused files path bytes most read.TooLong e l (inr risen) = not-risen risen
not-caused files path bytes most read.Failed e l risen = not-risen risen
not-caused files path bytes most read.Memory e l never = never

-- what is there is not missed by a store that never fails
pub none-missed : (files : Files) (s : Script) (path : List ℕ) (why : ReadError) → IsAvailable files s → IsMissed (Some files) (counts_of 0 0) (counts_of 0 0) s path why → ⊥
none-missed files s path why there missed =
    let here = there path missed.0 missed.1 in not-caused files path here.0 missed.0 why here.1 here.2 missed.2
