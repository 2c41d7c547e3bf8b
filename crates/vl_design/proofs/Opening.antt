-- The open files stand in order.
use Rattle.std.proofs.Common.{◌≡◌, ◌≢◌, ℕ, ◌+◌, ◌-◌, ◌<◌, ◌≤◌, nat_lt, Bool, true, false, List, [], ◌∷◌, length, take, filter, Option, Some, None, refl, ap, subst, arith, lit<}
use Rattle.std.specs.Prelude.{⊤, cond, not, ◌==◌, if◌then◌else◌, is_some, unwrap_or, slice_get}
use Rattle.std.specs.List.{find}
use Rattle.std.proofs.lemmas.Bool.{ltb-true, ltb-false, eqb-true, eq-eqb}
use Rattle.std.proofs.lemmas.List.{length-take, length-drop}
use Rattle.vl_base.specs.declared.files.File.{File}
use Rattle.vl_base.specs.declared.files.OpenFile.{OpenFile}
use Rattle.vl_base.specs.Files as file
use Rattle.vl_base.specs.Files.{contents, slots, is_taken, free_slot, descriptor, open_file, with_file, with_row, bytes_left, bytes_of}
use Rattle.vl_design.specs.Syntax.{Task, Print, Finish, Save, Fopen, Fread, Fgetc, Feof, Fclose, ReadHex, Row, Flat}
use Rattle.vl_design.specs.Width.{Scope, signal_form}
use Rattle.vl_design.specs.Value.{value_of}
use Rattle.vl_design.specs.State.{State, sample}
use Rattle.vl_design.specs.Tasks.{called, memory_read, descriptor_of}
use Rattle.vl_design.specs.Functions.{scope_of}
use Rattle.vl_design.specs.Queue.{Queue}
use Rattle.vl_design.specs.Snapshots.{Snapshot}
use Rattle.vl_design.specs.Alone.{Origin, Boundary, first_queue}
use Rattle.vl_design.specs.Acts.{Point, state_at, After, Before}
use Rattle.vl_design.specs.Laws.{IsOpenIn, AreOpenFrom, IsTable, StartsOpen}
use Rattle.vl_design.proofs.Running.{some_is}
use Rattle.vl_design.proofs.Unread.{or_false}
use Rattle.vl_design.proofs.Leading.{Steps, exec_leads, all_in}
use Rattle.vl_design.proofs.Acting.{EventSteps, any_parts}
use Rattle.vl_design.proofs.Lasting.{boundary_lasts, after_lasts, before_lasts}
use Rattle.vl_base.proofs.Booleans.{not_true_false as not_true}

-- ---- the lowest free slot

abbrev Below : List ℕ → Type 0
Below [] = ⊤
Below (x ∷ xs) = (x < 16) × Below xs

slots_below : Below slots
slots_below = (lit< tt, (lit< tt, (lit< tt, (lit< tt, (lit< tt, (lit< tt, (lit< tt, (lit< tt, (lit< tt, (lit< tt, (lit< tt, (lit< tt, (lit< tt, (lit< tt, (lit< tt, (lit< tt, tt))))))))))))))))

found : (test : ℕ → Bool) (xs : List ℕ) (x : ℕ) → Below xs → find test xs ≡ Some x → (x < 16) × (test x ≡ true)
found test [] x h e = let z : ⊥ = cc in absurd z
found test (y ∷ ys) x h e = at (test y) refl e (λ f. found test ys x h.1 f)
  where
    at : (b : Bool) → test y ≡ b → cond b (Some y) (find test ys) ≡ Some x → (find test ys ≡ Some x → (x < 16) × (test x ≡ true)) → (x < 16) × (test x ≡ true)
    at true t f g = let same : y ≡ x = some_is f in (subst (λ n. n < 16) same h.0, subst (λ n. test n ≡ true) same t)
    at false t f g = g f

free_is : (table : List OpenFile) (slot : ℕ) → free_slot table ≡ Some slot → (slot < 16) × (is_taken table slot ≡ false)
free_is table slot e = let f = found (λ x. not (is_taken table x)) slots slot slots_below e in (f.0, not_true (is_taken table slot) f.1)

module _ (files : List File) where
  weaker : (n m : ℕ) (table : List OpenFile) → n ≤ m → AreOpenFrom files m table → AreOpenFrom files n table
  weaker n m [] l h = tt
  weaker n m (f ∷ fs) l h = let a = h.0 in (omega arith, h.1, h.2)

  found_open : (test : OpenFile → Bool) (n : ℕ) (table : List OpenFile) (f : OpenFile) → AreOpenFrom files n table → find test table ≡ Some f → IsOpenIn files f
  found_open test n [] f h e = let z : ⊥ = cc in absurd z
  found_open test n (g ∷ gs) f h e = at (test g) e (λ x. found_open test (g.slot + 1) gs f h.2 x)
    where
      at : (b : Bool) → cond b (Some g) (find test gs) ≡ Some f → (find test gs ≡ Some f → IsOpenIn files f) → IsOpenIn files f
      at true x k = subst (IsOpenIn files) (some_is x) h.1
      at false x k = k x

  with_file_open : (n : ℕ) (g : OpenFile) (table : List OpenFile) → n ≤ g.slot → IsOpenIn files g → is_taken table g.slot ≡ false → AreOpenFrom files n table → AreOpenFrom files n (with_file g table)
  with_file_open n g [] l i t h = (l, i, tt)
  with_file_open n g (f ∷ fs) l i t h =
      let u = or_false (f.slot == g.slot) (is_taken fs g.slot) t in
      at u.0 (nat_lt g.slot f.slot) refl (λ m. with_file_open (f.slot + 1) g fs m i u.1 h.2)
    where
      at : (f.slot == g.slot) ≡ false → (b : Bool) → nat_lt g.slot f.slot ≡ b → (f.slot + 1 ≤ g.slot → AreOpenFrom files (f.slot + 1) (with_file g fs))
          → AreOpenFrom files n (if b then g ∷ f ∷ fs else f ∷ with_file g fs)
      at d true e k = let m : g.slot < f.slot = ltb-true g.slot f.slot e in (l, i, (omega arith, h.1, h.2))
      at d false e k =
          let m : f.slot ≤ g.slot = ltb-false g.slot f.slot e in
          let x : f.slot ≢ g.slot = λ z. (let y = eq-eqb f.slot g.slot z in cc (y, d)) in
          (h.0, h.1, k (omega (arith, x)))

  with_row_open : (n : ℕ) (g : OpenFile) (table : List OpenFile) → IsOpenIn files g → AreOpenFrom files n table → AreOpenFrom files n (with_row g table)
  with_row_open n g [] i h = tt
  with_row_open n g (f ∷ fs) i h = at (f.slot == g.slot) refl (with_row_open (f.slot + 1) g fs i h.2)
    where
      at : (b : Bool) → (f.slot == g.slot) ≡ b → AreOpenFrom files (f.slot + 1) (with_row g fs) → AreOpenFrom files n ((if b then g else f) ∷ with_row g fs)
      at true e k =
          let x : f.slot ≡ g.slot = eqb-true f.slot g.slot e in
          let a = h.0 in
          (omega arith, i, subst (λ m. AreOpenFrom files (m + 1) (with_row g fs)) x k)
      at false e k = (h.0, h.1, k)

  filter_open : (test : OpenFile → Bool) (n : ℕ) (table : List OpenFile) → AreOpenFrom files n table → AreOpenFrom files n (filter test table)
  filter_open test n [] h = tt
  filter_open test n (f ∷ fs) h = at (test f) (filter_open test (f.slot + 1) fs h.2)
    where
      at : (b : Bool) → AreOpenFrom files (f.slot + 1) (filter test fs) → AreOpenFrom files n (cond b (f ∷ filter test fs) (filter test fs))
      at true k = (h.0, h.1, k)
      at false k = let a = h.0 in weaker n (f.slot + 1) (filter test fs) (omega arith) k

  -- ---- calls

  opened_open : (table : List OpenFile) (name : List ℕ) → IsTable files table → IsTable files (file.opened files table name).table
  opened_open table name h = at (is_some (contents files name)) refl
    where
      by_slot : is_some (contents files name) ≡ true → (o : Option ℕ) → free_slot table ≡ o → IsTable files (file.opened_at table name o).table
      by_slot t None e = h
      by_slot t (Some slot) e =
          let f = free_is table slot e in
          with_file_open 0 (record { slot = slot; name = name; place = 0; ended = false }) table (omega arith) (record { small = f.0; there = t; within = omega arith }) f.1 h

      at : (b : Bool) → is_some (contents files name) ≡ b → IsTable files (file.opened_at table name (if b then free_slot table else None)).table
      at true t = by_slot t (free_slot table) refl
      at false t = h

  moved_open : (f : OpenFile) (n : ℕ) (ended : Bool) → IsOpenIn files f → n ≤ length (bytes_left files f) → IsOpenIn files (record f { place = f.place + n; ended = ended })
  moved_open f n ended i l =
      let w = i.within in
      let e : length (bytes_left files f) ≡ length (unwrap_or (contents files f.name) []) - f.place = length-drop f.place (unwrap_or (contents files f.name) []) in
      record { small = i.small; there = i.there; within = omega arith }

  character_open : (table : List OpenFile) (f : OpenFile) (bytes : List ℕ) → bytes_left files f ≡ bytes → IsOpenIn files f → IsTable files table → IsTable files (file.character_read table f bytes).table
  character_open table f [] e i h = with_row_open 0 (record f { ended = true }) table (record { small = i.small; there = i.there; within = i.within }) h
  character_open table f (b ∷ bs) e i h =
      let l : length (bytes_left files f) ≡ length (b ∷ bs) = ap length e in
      with_row_open 0 (record f { place = f.place + 1 }) table (moved_open f 1 f.ended i (omega arith)) h

  character_of_open : (table : List OpenFile) (o : Option OpenFile) → ((f : OpenFile) → o ≡ Some f → IsOpenIn files f) → IsTable files table → IsTable files (file.character_of files table o).table
  character_of_open table None k h = h
  character_of_open table (Some f) k h = character_open table f (bytes_left files f) refl (k f refl) h

  reading_open : (table : List OpenFile) (o : Option OpenFile) (w v : ℕ) → ((f : OpenFile) → o ≡ Some f → IsOpenIn files f) → IsTable files table → IsTable files (file.reading_of files table o w v).table
  reading_open table None w v k h = h
  reading_open table (Some f) w v k h =
      let l : length (take (bytes_of w) (bytes_left files f)) ≤ length (bytes_left files f) = omega (arith, length-take (bytes_of w) (bytes_left files f)) in
      with_row_open 0 _ table (moved_open f (length (take (bytes_of w) (bytes_left files f))) _ (k f refl) l) h

abbrev Opens : List File → State → State → Type 0
Opens files s t = IsTable files s.table → IsTable files t.table

memory_open : (files : List File) (m : ℕ) (r : Option Row) (text : Option (List ℕ)) (s : State) → Opens files s (memory_read m r text s)
memory_open files m None text s h = h
memory_open files m (Some r) None s h = h
memory_open files m (Some r) (Some text) s h = h

call_open : (scope : Scope) (task : Task) (s : State) → Opens scope.files s (called scope task s)
call_open scope (Print pieces newline) s h = h
call_open scope (Finish es) s h = h
call_open scope (Save name) s h = h
call_open scope (Fopen name) s h = opened_open scope.files s.table name h
call_open scope (Fread k fd) s h =
    let d = descriptor_of scope (sample s) fd in
    reading_open scope.files s.table (open_file s.table d) (signal_form scope.names.rows k).width (value_of s.values k) (λ f e. found_open scope.files (λ g. descriptor g.slot == d) 0 s.table f h e) h
call_open scope (Fgetc fd) s h =
    let d = descriptor_of scope (sample s) fd in
    character_of_open scope.files s.table (open_file s.table d) (λ f e. found_open scope.files (λ g. descriptor g.slot == d) 0 s.table f h e) h
call_open scope (Feof fd) s h = h
call_open scope (Fclose fd) s h = filter_open scope.files (λ g. not (descriptor g.slot == descriptor_of scope (sample s) fd)) 0 s.table h
call_open scope (ReadHex name m) s h = memory_open scope.files m (slice_get scope.names.rows m) (file.contents scope.files name) s h

steps_open : (scope : Scope) → Steps scope (Opens scope.files) (λ t. ⊤) (λ t. ⊤) (λ k. ⊤) (λ v. ⊤)
steps_open scope = record {
  same = λ s h. h;
  next = λ a b c f g h. g (f h);
  counts = λ s h. h;
  sets = λ t e s i f h. h;
  delays = λ t e s i f h. h;
  calls = λ task s i f. call_open scope task s;
  restores = λ k before s i f. f;
}

events_open : (d : Flat) (files : List File) → EventSteps d files (λ a. ⊤) (Opens files)
events_open d files = record {
  kind = any_parts;
  procs = λ i p l. tt;
  same = λ s h. h;
  next = λ a b c f g h. g (f h);
  execs = λ a h s. exec_leads (scope_of d files) (Opens files) _ _ _ _ (steps_open (scope_of d files)) a (all_in a) s;
  counts = λ s h. h;
  calls = λ task h. call_open (scope_of d files) task;
  updates = λ s h. h;
  rises = λ s h. h;
}

first_open : (o : Origin) (s : Option Snapshot) → StartsOpen o.files s → IsTable o.files (first_queue o s).state.table
first_open o None h = tt
first_open o (Some s) h = h

pub boundary_open : {o : Origin} {k : ℕ} {q : Queue} → StartsOpen o.files o.resume → Boundary o k q → IsTable o.files q.state.table
boundary_open {o} h x = boundary_lasts o (λ a. ⊤) (λ s. IsTable o.files s.table) (events_open o.flat o.files) (first_open o o.resume h) x

pub acts_open : {o : Origin} {c : ℕ} {p : Point} → StartsOpen o.files o.resume → After o c p → IsTable o.files (state_at p).table
acts_open {o} h x = after_lasts o (λ a. ⊤) (λ s. IsTable o.files s.table) (events_open o.flat o.files) (first_open o o.resume h) x

pub calls_open : {o : Origin} {c : ℕ} {task : Task} {p : Point} → StartsOpen o.files o.resume → Before o c task p → IsTable o.files (state_at p).table
calls_open {o} h x = before_lasts o (λ a. ⊤) (λ s. IsTable o.files s.table) (events_open o.flat o.files) (first_open o o.resume h) x
