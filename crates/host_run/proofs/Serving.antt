-- What comes of writing what is due, and when it was due.
use Rattle.std.proofs.Common.{◌≡◌, ◌≤◌, ℕ, List, [], take, Result, Ok, Err, refl, sym, ap, ◌∙◌, subst, arith, inl, inr}
use Rattle.std.specs.Prelude.{Option, option_map, OnOk, OnErr, IsErrOf}
use Rattle.host_form.specs.fab_io.specs.declared.store.ReadError.{ReadError}
use Rattle.host_form.specs.fab_io.specs.declared.store.ReadError.TheVariants as read
use Rattle.host_form.specs.fab_io.specs.declared.store.WriteError.{WriteError}
use Rattle.host_form.specs.fab_io.specs.declared.store.WriteError.TheVariants.{Failed, Memory}
use Rattle.host_form.specs.fab_io.specs.Outside.{Files, HasRisen, Miss}
use Rattle.fab_rounds.specs.fab_bay.specs.declared.noted.NotedCore.{NotedCore}
use Rattle.host_text.specs.declared.script.Script.{Script}
use Rattle.host_files.specs.Reading.{Counts, IsCause, IsMissed}
use Rattle.host_files.specs.Writes.{after_writes, LeavesFront, LosesOne, Write}
use Rattle.host_run.specs.Taking.{Takes}
use Rattle.host_run.specs.Due.{most_of, Outside, outside, IsDue, ran, checked, shown, misused, misread, unread_named, unread_file, Wrote, all, cut, short, unsaved, lost}
use Rattle.host_run.specs.Statuses.{status_of}
use Rattle.host_run.proofs.Outcomes.{written-none}
use Rattle.host_form.specs.fab_io.proofs.Shared.{risen-before}

-- ---- counts

risen-later : (x y z : ℕ) → y ≤ z → HasRisen x y → HasRisen x z
risen-later x y z h (inl r) = inl (omega (arith, h, r))
risen-later x y z h (inr r) = inr (omega (arith, h, r))

cause-later : (told : Option Files) (old mid new : Counts) (path : List ℕ) (most : ℕ) (why : ReadError) → mid.faults ≤ new.faults → mid.absences ≤ new.absences
    → IsCause told old mid path most why → IsCause told old new path most why
cause-later told old mid new path most read.NotThere f g (inl h) = inl h
cause-later told old mid new path most read.NotThere f g (inr h) = inr (risen-later _ _ _ g h)
cause-later told old mid new path most read.TooLong f g (inl h) = inl h
cause-later told old mid new path most read.TooLong f g (inr h) = inr (risen-later _ _ _ g h)
cause-later told old mid new path most read.Failed f g h = risen-later _ _ _ f h
cause-later told old mid new path most read.Memory f g h = h

cause-before : (told : Option Files) (old mid new : Counts) (path : List ℕ) (most : ℕ) (why : ReadError) → old.faults ≤ mid.faults → old.absences ≤ mid.absences
    → IsCause told mid new path most why → IsCause told old new path most why
cause-before told old mid new path most read.NotThere f g (inl h) = inl h
cause-before told old mid new path most read.NotThere f g (inr h) = inr (risen-before _ _ _ g h)
cause-before told old mid new path most read.TooLong f g (inl h) = inl h
cause-before told old mid new path most read.TooLong f g (inr h) = inr (risen-before _ _ _ g h)
cause-before told old mid new path most read.Failed f g h = risen-before _ _ _ f h
cause-before told old mid new path most read.Memory f g h = h

missed-later : (told : Option Files) (old mid new : Counts) (s : Script) (path : List ℕ) (why : ReadError) → mid.faults ≤ new.faults → mid.absences ≤ new.absences
    → IsMissed told old mid s path why → IsMissed told old new s path why
missed-later told old mid new s path why f g (most, h, k) = (most, h, cause-later told old mid new path most why f g k)

missed-before : (told : Option Files) (old mid new : Counts) (s : Script) (path : List ℕ) (why : ReadError) → old.faults ≤ mid.faults → old.absences ≤ mid.absences
    → IsMissed told mid new s path why → IsMissed told old new s path why
missed-before told old mid new s path why f g (most, h, k) = (most, h, cause-before told old mid new path most why f g k)

-- what was due is due where counts rose further, and no more reads failed
pub due-later : (told : Option Files) (old mid new : Counts) (before now after : List Miss) {words : List (List ℕ)} {status : ℕ} {text : List ℕ} {bays : List NotedCore} {writes : List Write}
    → mid.faults ≤ new.faults → new.absences ≡ mid.absences → after ≡ now → IsDue told old mid before now words status text bays writes → IsDue told old new before after words status text bays writes
due-later told old mid new before now after {words} {status} {text} {bays} {writes} f g e d = on (subst (λ (ms : List Miss). IsDue told old mid before ms words status text bays writes) (sym e) d)
  where
    absent : mid.absences ≤ new.absences
    absent = omega (arith, g)

    on : IsDue told old mid before after words status text bays writes → IsDue told old new before after words status text bays writes
    on (ran v e c t l y b h ms) = ran v e c t l y b h ms
    on (checked v e c t l k b w ms) = checked v e c t l k b w ms
    on (shown e c h w ms) = shown e c h w ms
    on (misused e c t b w ms) = misused e c t b w ms
    on (misread v e c t l y x b w ms) = misread v e c t l y x b w ms
    on (unread_named {path = p} n why e c q h x b w ms) = unread_named n why e c q (cause-later told old mid new p (most_of n) why f absent h) x b w ms
    on (unread_file v p {script = s} why e c t l y m x b w ms) = unread_file v p why e c t l y (missed-later told old mid new s p why f absent m) x b w ms

-- what is due behind a call that told the same files, counted less and missed no read is due before it
pub due-before : (told told' : Option Files) (old mid new : Counts) (before now after : List Miss) {words : List (List ℕ)} {status : ℕ} {text : List ℕ} {bays : List NotedCore} {writes : List Write}
    → told' ≡ told → old.faults ≤ mid.faults → old.absences ≤ mid.absences → now ≡ before → IsDue told' mid new now after words status text bays writes
    → IsDue told old new before after words status text bays writes
due-before told told' old mid new before now after {words} {status} {text} {bays} {writes} e f g h d =
    back (subst (λ (ms : List Miss). IsDue told mid new ms after words status text bays writes) h (subst (λ (t : Option Files). IsDue t mid new now after words status text bays writes) e d))
  where
    back : IsDue told mid new before after words status text bays writes → IsDue told old new before after words status text bays writes
    back (ran v e c t l y b h ms) = ran v e c t l y b h ms
    back (checked v e c t l k b w ms) = checked v e c t l k b w ms
    back (shown e c h w ms) = shown e c h w ms
    back (misused e c t b w ms) = misused e c t b w ms
    back (misread v e c t l y x b w ms) = misread v e c t l y x b w ms
    back (unread_named {path = p} n why e c q h x b w ms) = unread_named n why e c q (cause-before told old mid new p (most_of n) why f g h) x b w ms
    back (unread_file v p {script = s} why e c t l y m x b w ms) = unread_file v p why e c t l y (missed-before told old mid new s p why f g m) x b w ms

-- ---- writing

-- what came of a write came of a call that told the same files before, and counted less
pub wrote-from : (told told' : Option Files) (faults faults' absences absences' : ℕ) (missed missed' : List Miss) (taken : Option (List ℕ)) (failures : ℕ) (b : Outside) {text : List ℕ} {status : ℕ}
    {writes : List Write} {r : ℕ} → told' ≡ told → faults ≤ faults' → Wrote text status writes (outside told' faults' absences' missed' taken failures) b r
    → Wrote text status writes (outside told faults absences missed taken failures) b r
wrote-from told told' faults faults' absences absences' missed missed' taken failures b {writes = writes} e h (all s t f) = all s t (f ∙ ap (option_map (after_writes writes)) e)
wrote-from told told' faults faults' absences absences' missed missed' taken failures b e h (cut n t f s r) = cut n t (f ∙ e) s r
wrote-from told told' faults faults' absences absences' missed missed' taken failures b e h (short n t f s) = short n t (f ∙ e) s
wrote-from told told' faults faults' absences absences' missed missed' taken failures b {writes = writes} e h (unsaved t f s) =
    unsaved t (subst (λ (x : Option Files). LeavesFront writes x b.told) e f) s
wrote-from told told' faults faults' absences absences' missed missed' taken failures b {writes = writes} e h (lost t f s r) =
    lost t (subst (λ (x : Option Files). LosesOne writes x b.told) e f) s (risen-before _ _ _ h r)

-- a text is put that ends what is written, or fails
pub put-failed : (X : Type 0) (e : WriteError) {text : List ℕ} {status : ℕ} {writes : List Write} {a b : Outside} {r : ℕ} → (n : ℕ) × Takes a.taken b.taken (take n text) → b.told ≡ a.told
    → (e ≡ Failed → HasRisen a.failures b.failures) → r ≡ status_of {X = X} (Err e) status → Wrote text status writes a b r
put-failed X Failed front told rise is = cut front.0 front.1 told is (rise refl)
put-failed X Memory front told rise is = short front.0 front.1 told is

-- files are written behind a text that was taken, or not all of them
pub saves-came : {X : Type 0} (result : Result X WriteError) {text : List ℕ} {status : ℕ} {writes : List Write} {a b : Outside} {r : ℕ} → Takes a.taken b.taken text
    → OnOk result (b.told ≡ option_map (after_writes writes) a.told) → OnErr result (LeavesFront writes a.told b.told) → (IsErrOf result Failed → LosesOne writes a.told b.told)
    → (IsErrOf result Failed → HasRisen a.counts.faults b.counts.faults) → r ≡ status_of result status → Wrote text status writes a b r
saves-came (Ok x) t ok err loses rise is = all is t ok
saves-came (Err Failed) t ok err loses rise is = lost t (loses refl) is (rise refl)
saves-came (Err Memory) t ok err loses rise is = unsaved t err is

-- a text without files is put
pub put-came : {X : Type 0} (result : Result X WriteError) {text : List ℕ} {status : ℕ} {a b : Outside} {r : ℕ} → OnOk result (Takes a.taken b.taken text)
    → OnErr result ((n : ℕ) × Takes a.taken b.taken (take n text)) → (IsErrOf result Failed → HasRisen a.failures b.failures) → b.told ≡ a.told
    → r ≡ status_of result status → Wrote text status [] a b r
put-came (Ok x) {a = a} t front rise told is = all is t (told ∙ sym (written-none a.told))
put-came (Err Failed) t front rise told is = cut front.0 front.1 told is (rise refl)
put-came (Err Memory) t front rise told is = short front.0 front.1 told is
