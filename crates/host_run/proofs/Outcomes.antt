-- What follows of a call from its outcome.
use Rattle.std.proofs.Common.{◌≡◌, ◌≤◌, ℕ, List, [], ◌∷◌, ◌++◌, length, length-append, take, drop, Ok, refl, sym, ap, ◌∙◌, subst, arith, inl, inr}
use Rattle.std.specs.Prelude.{Option, Some, None, option_map, ◌⊎◌}
use Rattle.std.proofs.lemmas.List.{take-append-drop}
use Rattle.host_form.specs.fab_io.specs.declared.store.ReadError.{ReadError}
use Rattle.host_form.specs.fab_io.specs.declared.store.ReadError.TheVariants as read
use Rattle.host_form.specs.fab_io.specs.Outside.{Files, HasRisen, IsAbsent, IsTold, IsTooLong}
use Rattle.fab_rounds.specs.fab_bay.specs.declared.noted.NotedCore.{NotedCore}
use Rattle.host_text.specs.declared.script.Script.{Script}
use Rattle.host_text.specs.Reading.{reading}
use Rattle.host_files.specs.Reading.{Counts, IsAsked, IsCause, IsMissed}
use Rattle.host_files.specs.Writes.{after_writes, LeavesFront, LosesOne, Write}
use Rattle.host_run.specs.Taking.{Takes}
use Rattle.host_run.specs.Demos.{IsShown}
use Rattle.host_run.specs.Words.{command_of, path_of, Command, Run, Check, Demo}
use Rattle.host_run.specs.Due.{Outside, IsDue, ran, checked, shown, misused, misread, unread_named, unread_file, all, cut, short, unsaved, lost, Outcome, wrote, starved, most_of}
use Rattle.host_run.specs.Claims.{HasReported, HasJudged, HasShown, IsMisused, HasMisread, HasMissed, IsUnread, IsCut, IsUnsaved, HasFailed, TakesFront, IsGiven, IsServed, IsFaulty, IsCheckable, IsStarved}
use Rattle.host_text.specs.vl_base.proofs.Lists.{append_nil as append-none}
pub use Rattle.host_files.proofs.Writing.{with_none as written-none}

-- no cause without a count that rose, where the file is told within its limit
no-cause : (told : Option Files) (files : Files) (old new : Counts) (path bytes : List ℕ) (most : ℕ) (why : ReadError) → told ≡ Some files → files path ≡ Some bytes → length bytes ≤ most
    → (HasRisen old.faults new.faults → ⊥) → (HasRisen old.absences new.absences → ⊥) → IsCause told old new path most why → ⊥
no-cause told files old new path bytes most read.NotThere tells there size f g (inl h) =
    let absent : IsAbsent (Some files) path = subst (λ t. IsAbsent t path) tells h in
    absurd cc
no-cause told files old new path bytes most read.NotThere tells there size f g (inr h) = g h
no-cause told files old new path bytes most read.TooLong tells there size f g (inl h) =
    let long : IsTooLong (Some files) path most = subst (λ t. IsTooLong t path most) tells h in
    let same : long.0 ≡ bytes = cc (long.1, there) in
    let within : length long.0 ≤ most = rw same size in
    omega (arith, long.2)
no-cause told files old new path bytes most read.TooLong tells there size f g (inr h) = g h
no-cause told files old new path bytes most read.Failed tells there size f g h = f h
no-cause told files old new path bytes most read.Memory tells there size f g h = h

-- the words are one command
one-command : (words : List (List ℕ)) {c e : Command} → command_of words ≡ Some c → command_of words ≡ Some e → e ≡ c
one-command words h k = cc

-- which names one path at most
one-path : (words : List (List ℕ)) (c e : Command) (x y : List ℕ) → e ≡ c → path_of c ≡ Some x → path_of e ≡ Some y → y ≡ x
one-path words c e x y same p q =
    let both : Some y ≡ Some x = sym q ∙ ap path_of same ∙ p in
    cc

-- what is told at the path of the words is what they are given
told-bytes : {told : Option Files} {words : List (List ℕ)} {c : Command} {bytes : List ℕ} (s : IsGiven told words c bytes) (e : Command) (path other : List ℕ) → command_of words ≡ Some e
    → path_of e ≡ Some path → IsTold told path other → other ≡ bytes
told-bytes {told = told} {words = words} {c = c} s e path other h q t =
    let there = s.there in
    let same : path ≡ s.path = one-path words c e s.path path (one-command words s.command h) s.names q in
    let told_at : s.files path ≡ Some other = subst (λ x. IsTold x path other) s.tells t in
    cc

-- nor the file that they name
no-named : {told : Option Files} {words : List (List ℕ)} {c : Command} {bytes : List ℕ} (s : IsGiven told words c bytes) (old new : Counts) (e : Command) (path : List ℕ) (why : ReadError)
    → command_of words ≡ Some e → path_of e ≡ Some path → (HasRisen old.faults new.faults → ⊥) → (HasRisen old.absences new.absences → ⊥) → IsCause told old new path (most_of e) why → ⊥
no-named {told = told} {words = words} {c = c} {bytes = bytes} s old new e path why k q f g h =
    let same : e ≡ c = one-command words s.command k in
    let path_same : path ≡ s.path = one-path words c e s.path path same s.names q in
    no-cause told s.files old new s.path bytes (most_of c) why s.tells s.there s.short f g
    (subst (λ x. IsCause told old new s.path (most_of x) why) same (subst (λ x. IsCause told old new x (most_of e) why) path_same h))

-- nor is there a path in the words of the demonstration
no-path : (words : List (List ℕ)) (c : Command) (tenants : ℕ) (path : List ℕ) → command_of words ≡ Some c → command_of words ≡ Some (Demo tenants) → path_of c ≡ Some path → ⊥
no-path words c tenants path k h q =
    let none : path_of (Demo tenants) ≡ Some path = subst (λ x. path_of x ≡ Some path) (one-command words h k) q in
    absurd cc

-- nor what is read for it
no-file : {told : Option Files} {words : List (List ℕ)} (s : IsServed told words) (old new : Counts) (path bytes asked : List ℕ) (script : Script) (why : ReadError) → command_of words ≡ Some (Run path)
    → IsTold told path bytes → reading bytes ≡ Ok script → (HasRisen old.faults new.faults → ⊥) → (HasRisen old.absences new.absences → ⊥)
    → IsMissed told old new script asked why → ⊥
no-file {told = told} s old new path bytes asked script why c t l f g (most, h, k) =
    let reads = s.reads in
    let same : bytes ≡ s.bytes = told-bytes s.given (Run path) path bytes c refl t in
    let script_same : script ≡ s.script = cc in
    let is_asked : IsAsked (Some s.given.files) s.script asked most =
    subst (λ x. IsAsked x s.script asked most) s.given.tells (subst (λ x. IsAsked told x asked most) script_same h) in
    let there = s.available asked most is_asked in
    no-cause told s.given.files old new asked there.0 most why s.given.tells there.1 there.2 f g k

module _ (words : List (List ℕ)) (a b : Outside) (bays : List NotedCore) (r : ℕ) where
  abbrev IsDueNow : ℕ → List ℕ → List Write → Type 0
  IsDueNow status text writes = IsDue a.told a.counts b.counts a.missed b.missed words status text bays writes

  -- what is due with a status, and was taken and written whole
  record IsDone : Type 0 where
    pub text : List ℕ
    pub writes : List Write
    pub due : IsDueNow r text writes
    pub takes : Takes a.taken b.taken text
    pub files : b.told ≡ option_map (after_writes writes) a.told

  -- a status that isn't that of a failed write is that of what was written whole
  done : (r ≡ 6 → ⊥) → (r ≡ 7 → ⊥) → Outcome words a b bays r → IsDone
  done six seven (wrote {text = text} {writes = writes} due (all e t f)) = record {
    text = text;
    writes = writes;
    due = subst (λ n. IsDueNow n text writes) (sym e) due;
    takes = t;
    files = f;
  }
  done six seven (wrote due (cut n t f e h)) = absurd (six e)
  done six seven (wrote due (short n t f e)) = absurd (seven e)
  done six seven (wrote due (unsaved t f e)) = absurd (seven e)
  done six seven (wrote due (lost t f e h)) = absurd (six e)
  done six seven (starved e t f) = absurd (seven e)

  -- where nothing is to be written, no told file changes
  same : (writes : List Write) → writes ≡ [] → b.told ≡ option_map (after_writes writes) a.told → b.told ≡ a.told
  same writes e f = f ∙ ap (λ (xs : List Write). option_map (after_writes xs) a.told) e ∙ written-none a.told

  -- a status that is 0 or 3 is no other
  no-other : (n : ℕ) → (n ≡ 0) ⊎ (n ≡ 3) → (n ≡ 2 → ⊥) × (n ≡ 4 → ⊥) × (n ≡ 5 → ⊥) × (n ≡ 6 → ⊥) × (n ≡ 7 → ⊥)
  no-other n (inl e) = (λ h. omega arith, λ h. omega arith, λ h. omega arith, λ h. omega arith, λ h. omega arith)
  no-other n (inr e) = (λ h. omega arith, λ h. omega arith, λ h. omega arith, λ h. omega arith, λ h. omega arith)

  pub has_reported : (path : List ℕ) → command_of words ≡ Some (Run path) → (r ≡ 0) ⊎ (r ≡ 3) → Outcome words a b bays r → HasReported words a b bays r
  has_reported path run z o = go d.due d.takes d.files
    where
      not : (r ≡ 2 → ⊥) × (r ≡ 4 → ⊥) × (r ≡ 5 → ⊥) × (r ≡ 6 → ⊥) × (r ≡ 7 → ⊥)
      not = no-other r z

      d : IsDone
      d = done not.3 not.4 o

      go : {text : List ℕ} {writes : List Write} → IsDueNow r text writes → Takes a.taken b.taken text → b.told ≡ option_map (after_writes writes) a.told → HasReported words a b bays r
      go {text} {writes} (ran {path = p} x {script = s} e c t l y f h ms) w k = record {
        path = p;
        bytes = x;
        script = s;
        report = text;
        writes = writes;
        command = c;
        read = t;
        short = l;
        reads = y;
        fabrics = f;
        ran = h;
        takes = w;
        files = k;
      }
      go (checked v e c t l y f s ms) w k = absurd cc
      go (shown e c h s ms) w k = absurd cc
      go (misused e c t f s ms) w k = absurd (not.0 e)
      go (misread v e c t l y x f s ms) w k = absurd (not.1 e)
      go (unread_named {path = p} n y e c q t x f s ms) w k = absurd (not.2 e)
      go (unread_file v q y e c t l x m u f s ms) w k = absurd (not.2 e)

  pub has_judged : (path : List ℕ) → command_of words ≡ Some (Check path) → (r ≡ 0) ⊎ (r ≡ 3) → Outcome words a b bays r → HasJudged words a b bays r
  has_judged path check z o = go d.due d.takes d.files
    where
      not : (r ≡ 2 → ⊥) × (r ≡ 4 → ⊥) × (r ≡ 5 → ⊥) × (r ≡ 6 → ⊥) × (r ≡ 7 → ⊥)
      not = no-other r z

      d : IsDone
      d = done not.3 not.4 o

      go : {text : List ℕ} {writes : List Write} → IsDueNow r text writes → Takes a.taken b.taken text → b.told ≡ option_map (after_writes writes) a.told → HasJudged words a b bays r
      go (ran v e c t l y f h ms) w k = absurd cc
      go {text} {writes} (checked {path = p} x e c t l y f s ms) w k = record {
        path = p;
        bytes = x;
        said = text;
        command = c;
        read = t;
        short = l;
        check = y;
        takes = w;
        files = same writes s k;
        none = f;
      }
      go (shown e c h s ms) w k = absurd cc
      go (misused e c t f s ms) w k = absurd (not.0 e)
      go (misread v e c t l y x f s ms) w k = absurd (not.1 e)
      go (unread_named {path = p} n y e c q t x f s ms) w k = absurd (not.2 e)
      go (unread_file v q y e c t l x m u f s ms) w k = absurd (not.2 e)

  pub has_shown : (tenants : ℕ) → command_of words ≡ Some (Demo tenants) → r ≡ 0 → Outcome words a b bays r → HasShown tenants a b bays
  has_shown tenants demo z o = go d.due d.takes d.files
    where
      d : IsDone
      d = done (λ e. omega arith) (λ e. omega arith) o

      go : {text : List ℕ} {writes : List Write} → IsDueNow r text writes → Takes a.taken b.taken text → b.told ≡ option_map (after_writes writes) a.told → HasShown tenants a b bays
      go (ran v e c t l y f h ms) w k = absurd cc
      go (checked v e c t l y f s ms) w k = absurd cc
      go {text} {writes} (shown {tenants = n} e c h s ms) w k =
          let is : n ≡ tenants = cc in
          record { text = text; shown = subst (λ (m : ℕ). IsShown m text bays) is h; takes = w; files = same writes s k }
      go (misused e c t f s ms) w k = absurd (omega arith)
      go (misread v e c t l y x f s ms) w k = absurd (omega arith)
      go (unread_named n y e c q t x f s ms) w k = absurd (omega arith)
      go (unread_file v q y e c t l x m u f s ms) w k = absurd (omega arith)

  pub is_misused : r ≡ 2 → Outcome words a b bays r → IsMisused words a b bays
  is_misused z o = go d.due d.takes d.files
    where
      d : IsDone
      d = done (λ e. omega arith) (λ e. omega arith) o

      go : {text : List ℕ} {writes : List Write} → IsDueNow r text writes → Takes a.taken b.taken text → b.told ≡ option_map (after_writes writes) a.told → IsMisused words a b bays
      go (ran v e c t l y f h ms) w k = absurd ((no-other r e).0 z)
      go (checked v e c t l y f s ms) w k = absurd ((no-other r e).0 z)
      go (shown e c h s ms) w k = absurd (omega arith)
      go {text} {writes} (misused e c t f s ms) w k = record { command = c; takes = subst (Takes a.taken b.taken) t w; files = same writes s k; none = f }
      go (misread v e c t l y x f s ms) w k = absurd (omega arith)
      go (unread_named {path = p} n y e c q t x f s ms) w k = absurd (omega arith)
      go (unread_file v q y e c t l x m u f s ms) w k = absurd (omega arith)

  pub has_misread : r ≡ 4 → Outcome words a b bays r → HasMisread words a b bays
  has_misread z o = go d.due d.takes d.files
    where
      d : IsDone
      d = done (λ e. omega arith) (λ e. omega arith) o

      go : {text : List ℕ} {writes : List Write} → IsDueNow r text writes → Takes a.taken b.taken text → b.told ≡ option_map (after_writes writes) a.told → HasMisread words a b bays
      go (ran v e c t l y f h ms) w k = absurd ((no-other r e).1 z)
      go (checked v e c t l y f s ms) w k = absurd ((no-other r e).1 z)
      go (shown e c h s ms) w k = absurd (omega arith)
      go (misused e c t f s ms) w k = absurd (omega arith)
      go {text} {writes} (misread {path = p} x {line = n} {cause = m} e c t l y u f s ms) w k = record {
        path = p;
        bytes = x;
        line = n;
        cause = m;
        command = c;
        read = t;
        short = l;
        faulty = y;
        takes = subst (Takes a.taken b.taken) u w;
        files = same writes s k;
        none = f;
      }
      go (unread_named {path = p} n y e c q t x f s ms) w k = absurd (omega arith)
      go (unread_file v q y e c t l x m u f s ms) w k = absurd (omega arith)

  pub has_missed : r ≡ 5 → Outcome words a b bays r → HasMissed words a b bays
  has_missed z o = go d.due d.takes d.files
    where
      d : IsDone
      d = done (λ e. omega arith) (λ e. omega arith) o

      go : {text : List ℕ} {writes : List Write} → IsDueNow r text writes → Takes a.taken b.taken text → b.told ≡ option_map (after_writes writes) a.told → HasMissed words a b bays
      go (ran v e c t l y f h ms) w k = absurd ((no-other r e).2 z)
      go (checked v e c t l y f s ms) w k = absurd ((no-other r e).2 z)
      go (shown e c h s ms) w k = absurd (omega arith)
      go (misused e c t f s ms) w k = absurd (omega arith)
      go (misread v e c t l y x f s ms) w k = absurd (omega arith)
      go {text} {writes} (unread_named {path = p} n y e c q t x f s ms) w k =
          record { path = p; why = y; cause = IsUnread.named n c q t; only = ms; takes = subst (Takes a.taken b.taken) x w; files = same writes s k; none = f }
      go {text} {writes} (unread_file v p y e c t l x m u f s ms) w k =
          record { path = p; why = y; cause = IsUnread.file v c t l x m; only = ms; takes = subst (Takes a.taken b.taken) u w; files = same writes s k; none = f }

  -- what was due has one of five statuses
  due_status : {s : ℕ} {text : List ℕ} {writes : List Write} → IsDueNow s text writes → (s ≡ 6 → ⊥) × (s ≡ 7 → ⊥)
  due_status {s} (ran v e c t l y f h ms) = let not = no-other s e in (not.3, not.4)
  due_status {s} (checked v e c t l y f w ms) = let not = no-other s e in (not.3, not.4)
  due_status (shown e c h s ms) = (λ h. omega arith, λ h. omega arith)
  due_status (misused e c t f s ms) = (λ h. omega arith, λ h. omega arith)
  due_status (misread v e c t l y x f s ms) = (λ h. omega arith, λ h. omega arith)
  due_status (unread_named {path = p} n y e c q t x f s ms) = (λ h. omega arith, λ h. omega arith)
  due_status (unread_file v q y e c t l x m u f s ms) = (λ h. omega arith, λ h. omega arith)

  -- the sink failed behind a front of the text
  cut_of : {s : ℕ} {text : List ℕ} {writes : List Write} → IsDueNow s text writes → (n : ℕ) → Takes a.taken b.taken (take n text) → b.told ≡ a.told → HasRisen a.failures b.failures
      → IsCut words a b bays
  cut_of {s} {text} {writes} due n t f h = record {
    status = s;
    front = take n text;
    rest = drop n text;
    writes = writes;
    due = subst (λ x. IsDueNow s x writes) (sym (take-append-drop n text)) due;
    takes = t;
    files = f;
    sink = h;
  }

  -- of no writes none fails
  none-lost : (writes : List Write) → writes ≡ [] → LosesOne writes a.told b.told → ⊥
  none-lost writes none l =
      let size : length (l.done ++ l.lost ∷ l.behind) ≡ 0 = ap length (sym l.are ∙ none) in
      let sum = length-append l.done (l.lost ∷ l.behind) in
      omega (arith, size, sum)

  -- what has files to be written is due for a script that was run, and no read failed
  has_run : {s : ℕ} {text : List ℕ} {writes : List Write} → IsDueNow s text writes → LosesOne writes a.told b.told → ((s ≡ 0) ⊎ (s ≡ 3)) × (b.missed ≡ a.missed)
  has_run (ran v e c t l y f h ms) k = (e, ms)
  has_run {writes = ws} (checked v e c t l y f s ms) k = absurd (none-lost ws s k)
  has_run {writes = ws} (shown e c h s ms) k = absurd (none-lost ws s k)
  has_run {writes = ws} (misused e c t f s ms) k = absurd (none-lost ws s k)
  has_run {writes = ws} (misread v e c t l y x f s ms) k = absurd (none-lost ws s k)
  has_run {writes = ws} (unread_named {path = p} n y e c q t x f s ms) k = absurd (none-lost ws s k)
  has_run {writes = ws} (unread_file v q y e c t l x m u f s ms) k = absurd (none-lost ws s k)

  -- the store failed in a write behind the text
  unsaved_of : {s : ℕ} {text : List ℕ} {writes : List Write} → IsDueNow s text writes → Takes a.taken b.taken text → LosesOne writes a.told b.told → HasRisen a.counts.faults b.counts.faults
      → IsUnsaved words a b bays
  unsaved_of {s} {text} {writes} due t f h =
      let of_run = has_run due f in
      record { status = s; text = text; writes = writes; due = due; ran = of_run.0; takes = t; files = f; store = h; read = of_run.1 }

  pub has_failed : r ≡ 6 → Outcome words a b bays r → HasFailed words a b bays
  has_failed z (wrote due (all e t f)) = absurd ((due_status due).0 (sym e ∙ z))
  has_failed z (wrote due (cut n t f e h)) = inl (cut_of due n t f h)
  has_failed z (wrote due (short n t f e)) = absurd (omega arith)
  has_failed z (wrote due (unsaved t f e)) = absurd (omega arith)
  has_failed z (wrote due (lost t f e h)) = inr (unsaved_of due t f h)
  has_failed z (starved e t f) = absurd (omega arith)

  -- a front of the text was taken, and no told file changes
  front_of : {s : ℕ} {text : List ℕ} {writes : List Write} → IsDueNow s text writes → (n : ℕ) → Takes a.taken b.taken (take n text) → b.told ≡ a.told → TakesFront words a b bays
  front_of {s} {text} {writes} due n t f = record {
    status = s;
    front = take n text;
    rest = drop n text;
    writes = writes;
    due = subst (λ x. IsDueNow s x writes) (sym (take-append-drop n text)) due;
    takes = t;
    files = LeavesFront.written 0 (f ∙ sym (written-none a.told));
    order = λ more. f;
  }

  -- the text was taken, and a front of the files is written
  saved_of : {s : ℕ} {text : List ℕ} {writes : List Write} → IsDueNow s text writes → Takes a.taken b.taken text → LeavesFront writes a.told b.told → TakesFront words a b bays
  saved_of {s} {text} {writes} due t f = record {
    status = s;
    front = text;
    rest = [];
    writes = writes;
    due = subst (λ x. IsDueNow s x writes) (sym (append-none text)) due;
    takes = t;
    files = f;
    order = λ more. absurd (more refl);
  }

  pub is_starved : r ≡ 7 → Outcome words a b bays r → IsStarved words a b bays
  is_starved z (wrote due (all e t f)) = absurd ((due_status due).1 (sym e ∙ z))
  is_starved z (wrote due (cut n t f e h)) = absurd (omega arith)
  is_starved z (wrote due (short n t f e)) = inr (front_of due n t f)
  is_starved z (wrote due (unsaved t f e)) = inr (saved_of due t f)
  is_starved z (wrote due (lost t f e h)) = absurd (omega arith)
  is_starved z (starved e t f) = inl (t, f)

  -- words that are no command are answered by the usage, or the sink failed, or memory
  pub is_usage : command_of words ≡ None → Outcome words a b bays r → (r ≡ 2) ⊎ ((r ≡ 6) ⊎ (r ≡ 7))
  is_usage none (wrote due (cut n t k d h)) = inr (inl d)
  is_usage none (wrote due (short n t k d)) = inr (inr d)
  is_usage none (wrote due (unsaved t k d)) = inr (inr d)
  is_usage none (wrote due (lost t k d h)) = inr (inl d)
  is_usage none (starved e t f) = inr (inr e)
  is_usage none (wrote (ran v e c t l y f h ms) (all d w k)) = absurd cc
  is_usage none (wrote (checked v e c t l y f s ms) (all d w k)) = absurd cc
  is_usage none (wrote (shown e c h s ms) (all d w k)) = absurd cc
  is_usage none (wrote (misused e c t f s ms) (all d w k)) = inl (d ∙ e)
  is_usage none (wrote (misread v e c t l y x f s ms) (all d w k)) = absurd cc
  is_usage none (wrote (unread_named {path = p} n y e c q t x f s ms) (all d w k)) = absurd cc
  is_usage none (wrote (unread_file v q y e c t l x m u f s ms) (all d w k)) = absurd cc

  -- the demonstration is answered by its summary, or the sink failed, or the store, or memory
  pub is_demo : (tenants : ℕ) → command_of words ≡ Some (Demo tenants) → Outcome words a b bays r → (r ≡ 0) ⊎ ((r ≡ 6) ⊎ (r ≡ 7))
  is_demo tenants demo (wrote due (cut n t k d h)) = inr (inl d)
  is_demo tenants demo (wrote due (short n t k d)) = inr (inr d)
  is_demo tenants demo (wrote due (unsaved t k d)) = inr (inr d)
  is_demo tenants demo (wrote due (lost t k d h)) = inr (inl d)
  is_demo tenants demo (starved e t f) = inr (inr e)
  is_demo tenants demo (wrote (ran v e c t l y f h ms) (all d w k)) = absurd cc
  is_demo tenants demo (wrote (checked v e c t l y f s ms) (all d w k)) = absurd cc
  is_demo tenants demo (wrote (shown e c h s ms) (all d w k)) = inl (d ∙ e)
  is_demo tenants demo (wrote (misused e c t f s ms) (all d w k)) = absurd cc
  is_demo tenants demo (wrote (misread v e c t l y x f s ms) (all d w k)) = absurd cc
  is_demo tenants demo (wrote (unread_named {path = p} n y e c q t x f s ms) (all d w k)) = absurd (no-path words n tenants p c demo q)
  is_demo tenants demo (wrote (unread_file v q y e c t l x m u f s ms) (all d w k)) = absurd cc

  -- a told script that has no reading, without a count that rose, is answered by its fault, or the sink failed, or memory
  pub is_faulty : IsFaulty a.told words → (HasRisen a.counts.faults b.counts.faults → ⊥) → (HasRisen a.counts.absences b.counts.absences → ⊥)
      → Outcome words a b bays r → (r ≡ 4) ⊎ ((r ≡ 6) ⊎ (r ≡ 7))
  is_faulty i f g (wrote due (cut n t k d h)) = inr (inl d)
  is_faulty i f g (wrote due (short n t k d)) = inr (inr d)
  is_faulty i f g (wrote due (unsaved t k d)) = inr (inr d)
  is_faulty i f g (wrote due (lost t k d h)) = inr (inl d)
  is_faulty i f g (starved e t k) = inr (inr e)
  is_faulty i f g (wrote (ran {path = p} v e c t l y m h ms) (all d w k)) =
      let is = told-bytes i.given (Run p) p v c refl t in
      let faulty = i.faulty in
      absurd cc
  is_faulty i f g (wrote (checked v e c t l y m s ms) (all d w k)) = let command = i.given.command in absurd cc
  is_faulty i f g (wrote (shown e c h s ms) (all d w k)) = let command = i.given.command in absurd cc
  is_faulty i f g (wrote (misused e c t m s ms) (all d w k)) = let command = i.given.command in absurd cc
  is_faulty i f g (wrote (misread v e c t l y x m s ms) (all d w k)) = inl (d ∙ e)
  is_faulty i f g (wrote (unread_named {path = p} n y e c q t x m s ms) (all d w k)) = absurd (no-named i.given a.counts b.counts n p y c q f g t)
  is_faulty i f g (wrote (unread_file {path = p} v q y e c t l x m u n s ms) (all d w k)) =
      let is = told-bytes i.given (Run p) p v c refl t in
      let faulty = i.faulty in
      absurd cc

  -- a script that is told with all that is read for it, or a source that is, without a count that rose, is run or checked, or memory was wanting
  pub is_complete : IsServed a.told words ⊎ IsCheckable a.told words → (HasRisen a.counts.faults b.counts.faults → ⊥) → (HasRisen a.counts.absences b.counts.absences → ⊥)
      → (HasRisen a.failures b.failures → ⊥) → Outcome words a b bays r → (r ≡ 0) ⊎ ((r ≡ 3) ⊎ (r ≡ 7))
  is_complete i f g z (wrote due (cut n t k d h)) = absurd (z h)
  is_complete i f g z (wrote due (short n t k d)) = inr (inr d)
  is_complete i f g z (wrote due (unsaved t k d)) = inr (inr d)
  is_complete i f g z (wrote due (lost t k d h)) = absurd (f h)
  is_complete i f g z (starved e t k) = inr (inr e)
  is_complete i f g z (wrote (ran v (inl e) c t l y m h ms) (all d w k)) = inl (d ∙ e)
  is_complete i f g z (wrote (ran v (inr e) c t l y m h ms) (all d w k)) = inr (inl (d ∙ e))
  is_complete i f g z (wrote (checked v (inl e) c t l y m s ms) (all d w k)) = inl (d ∙ e)
  is_complete i f g z (wrote (checked v (inr e) c t l y m s ms) (all d w k)) = inr (inl (d ∙ e))
  is_complete (inl i) f g z (wrote (shown e c h s ms) (all d w k)) = let command = i.given.command in absurd cc
  is_complete (inl i) f g z (wrote (misused e c t m s ms) (all d w k)) = let command = i.given.command in absurd cc
  is_complete (inl i) f g z (wrote (misread {path = p} v e c t l y x m s ms) (all d w k)) =
      let is = told-bytes i.given (Run p) p v c refl t in
      let reads = i.reads in
      absurd cc
  is_complete (inl i) f g z (wrote (unread_named {path = p} n y e c q t x m s ms) (all d w k)) = absurd (no-named i.given a.counts b.counts n p y c q f g t)
  is_complete (inl i) f g z (wrote (unread_file {path = p} v q {script = o} y e c t l x m u n s ms) (all d w k)) =
      absurd (no-file i a.counts b.counts p v q o y c t x f g m)
  is_complete (inr i) f g z (wrote (shown e c h s ms) (all d w k)) = let command = i.given.command in absurd cc
  is_complete (inr i) f g z (wrote (misused e c t m s ms) (all d w k)) = let command = i.given.command in absurd cc
  is_complete (inr i) f g z (wrote (misread v e c t l y x m s ms) (all d w k)) = let command = i.given.command in absurd cc
  is_complete (inr i) f g z (wrote (unread_named {path = p} n y e c q t x m s ms) (all d w k)) = absurd (no-named i.given a.counts b.counts n p y c q f g t)
  is_complete (inr i) f g z (wrote (unread_file v q y e c t l x m u n s ms) (all d w k)) = let command = i.given.command in absurd cc

  -- the statuses that there are
  pub is_status : Outcome words a b bays r → (r ≡ 0) ⊎ ((r ≡ 2) ⊎ ((r ≡ 3) ⊎ ((r ≡ 4) ⊎ ((r ≡ 5) ⊎ ((r ≡ 6) ⊎ (r ≡ 7))))))
  is_status (wrote (ran v (inl e) c t l y f h ms) (all d w k)) = inl (d ∙ e)
  is_status (wrote (ran v (inr e) c t l y f h ms) (all d w k)) = inr (inr (inl (d ∙ e)))
  is_status (wrote (checked v (inl e) c t l y f s ms) (all d w k)) = inl (d ∙ e)
  is_status (wrote (checked v (inr e) c t l y f s ms) (all d w k)) = inr (inr (inl (d ∙ e)))
  is_status (wrote (shown e c h s ms) (all d w k)) = inl (d ∙ e)
  is_status (wrote (misused e c t f s ms) (all d w k)) = inr (inl (d ∙ e))
  is_status (wrote (misread v e c t l y x f s ms) (all d w k)) = inr (inr (inr (inl (d ∙ e))))
  is_status (wrote (unread_named {path = p} n y e c q t x f s ms) (all d w k)) = inr (inr (inr (inr (inl (d ∙ e)))))
  is_status (wrote (unread_file v q y e c t l x m u f s ms) (all d w k)) = inr (inr (inr (inr (inl (d ∙ e)))))
  is_status (wrote due (cut n t z d h)) = inr (inr (inr (inr (inr (inl d)))))
  is_status (wrote due (short n t z d)) = inr (inr (inr (inr (inr (inr d)))))
  is_status (wrote due (unsaved t z d)) = inr (inr (inr (inr (inr (inr d)))))
  is_status (wrote due (lost t z d h)) = inr (inr (inr (inr (inr (inl d)))))
  is_status (starved e t f) = inr (inr (inr (inr (inr (inr e)))))
