-- Names of the snapshots that a run keeps.
use Rattle.std.proofs.Common.{◌≡◌, ℕ, suc, Bool, true, false, List, [], ◌∷◌, ◌++◌, map, Option, Some, None}
use Rattle.std.specs.Prelude.{⊤, ◌==◌, if◌then◌else◌, filter, slice_get}
use Rattle.std.specs.List.{AllByRecursion}
use Rattle.std.specs.Str.{bytes_eq}
use Rattle.std.proofs.lemmas.List.Elements.{All-weaker}
use Rattle.std.proofs.lemmas.Bool.{not-false}
use Rattle.vl_sound.specs.vl_base.specs.declared.files.File.{File}
use Rattle.vl_sound.specs.vl_base.specs.Files.{contents}
use Rattle.ten_plan.specs.vl_design.specs.Alone.{Due, SaveAs, Stop, Move, Errand, Origin, FreeSave, Keeps, Boundary, first_queue, due_at, free_names, save_name, save_names}
use Rattle.ten_plan.specs.vl_design.specs.Functions.{scope_of}
use Rattle.ten_plan.specs.vl_design.specs.Queue.{Queue}
use Rattle.ten_plan.specs.vl_design.specs.Snapshots.{Snapshot, Saved, snapshot_of, saved_over, all_saved}
use Rattle.ten_plan.specs.vl_design.specs.State.{State}
use Rattle.ten_plan.specs.vl_design.specs.Syntax.{Task, Save, ReadHex, Items, NoItems, Labelled, Default, Row, Proc, Flat}
use Rattle.ten_plan.specs.vl_design.specs.Tasks.{called, memory_read}
use Rattle.ten_plan.specs.vl_design.specs.Width.{Scope}
use Rattle.ten_plan.specs.vl_design.proofs.Acting.{Bodies, IsHereditary, EventSteps}
use Rattle.ten_plan.specs.vl_design.proofs.Lasting.{boundary_lasts}
use Rattle.ten_plan.specs.vl_design.proofs.Leading.{Steps, exec_leads}
use Rattle.elab_laws.specs.Names.{is_named, IsNamedDue, NamesErrands, NamesFreeSaves, NamesSaves}
use Rattle.elab_laws.proofs.Nodes.{IsNamedTask, Named, ItemsNamed, named-of}

-- ---- names

abbrev AreNamed : List (List ℕ) → Type 0
AreNamed names = AllByRecursion (λ n. is_named n ≡ true) names

both-named : (a b : List (List ℕ)) → AreNamed a → AreNamed b → AreNamed (a ++ b)
both-named [] b h k = k
both-named (n ∷ a) b h k = (h.0, both-named a b h.1 k)

-- ---- what a run has to save

abbrev Stays : State → State → Type 0
Stays s t = AreNamed s.saves → AreNamed t.saves

memory-stays : (m : ℕ) (r : Option Row) (text : Option (List ℕ)) (s : State) → Stays s (memory_read m r text s)
memory-stays m None text s h = h
memory-stays m (Some r) None s h = h
memory-stays m (Some r) (Some text) s h = h

call-stays : (scope : Scope) (task : Task) (s : State) → IsNamedTask task → Stays s (called scope task s)
call-stays scope (Save name) s n h = both-named s.saves (name ∷ []) h (not-false (is_named name) n, tt)
call-stays scope (ReadHex name m) s n h = memory-stays m (slice_get scope.names.rows m) (contents scope.files name) s h
call-stays scope task s n h = h

steps-stay : (scope : Scope) → Steps scope Stays (λ t. ⊤) (λ t. ⊤) IsNamedTask (λ v. ⊤)
steps-stay scope = record {
  same = λ s h. h;
  next = λ a b c f g h. g (f h);
  counts = λ s h. h;
  sets = λ t e s i f h. h;
  delays = λ t e s i f h. h;
  calls = λ task s n f. call-stays scope task s n;
  restores = λ k before s i f. f;
}

bodies-named : (items : Items) → ItemsNamed items → Bodies Named items
bodies-named NoItems h = tt
bodies-named (Labelled es a others) h = (h.0, bodies-named others h.1)
bodies-named (Default a others) h = (h.0, bodies-named others h.1)

hereditary : IsHereditary Named
hereditary = record { none = tt; parts = λ a b h. h; branches = λ t a b h. h; items = λ e items h. bodies-named items h }

events-stay : (d : Flat) (files : List File) → NamesSaves d → EventSteps d files Named Stays
events-stay d files names = record {
  kind = hereditary;
  procs = All-weaker _ (λ (p : Proc). Named p.body) (λ p h. named-of p.body h) d.procs names.procs;
  same = λ s h. h;
  next = λ a b c f g h. g (f h);
  execs = λ a h s. exec_leads (scope_of d files) Stays _ _ _ _ (steps-stay (scope_of d files)) a h s;
  counts = λ s h. h;
  calls = λ task n s. call-stays (scope_of d files) task s n;
  updates = λ s h. h;
  rises = λ s h. tt;
}

first-named : (o : Origin) (s : Option Snapshot) → AreNamed (first_queue o s).state.saves
first-named o None = tt
first-named o (Some s) = tt

saves-named : (o : Origin) → NamesSaves o.flat → {k : ℕ} {q : Queue} → Boundary o k q → AreNamed q.state.saves
saves-named o names x = boundary_lasts o Named (λ s. AreNamed s.saves) (events-stay o.flat o.files names) (first-named o o.resume) x

-- ---- what is asked for otherwise

due-named : (k t : ℕ) (d : Due) → IsNamedDue d → AreNamed (save_name k t d)
due-named k t (SaveAs name) h = at (t == k)
  where
    at : (b : Bool) → AreNamed (if b then name ∷ [] else [])
    at true = (h, tt)
    at false = tt
due-named k t Stop h = tt
due-named k t (Move fabric) h = tt

errands-named : (k : ℕ) (es : List Errand) → AllByRecursion (λ e. IsNamedDue e.due) es → AreNamed (save_names k es)
errands-named k [] h = tt
errands-named k (e ∷ es) h = both-named (save_name k e.tick e.due) (save_names k es) (due-named k e.tick e.due h.0) (errands-named k es h.1)

free-named : (k : ℕ) (free : List FreeSave) → AllByRecursion (λ f. is_named f.name ≡ true) free → AreNamed (free_names k free)
free-named k [] h = tt
free-named k (f ∷ free) h = at (f.tick == k) (free-named k free h.1)
  where
    at : (b : Bool) → AreNamed (free_names k free) → AreNamed (map (λ (f : FreeSave). f.name) (if b then f ∷ filter (λ (f : FreeSave). f.tick == k) free else filter (λ (f : FreeSave). f.tick == k) free))
    at true others = (h.0, others)
    at false others = others

-- ---- what is kept

abbrev IsNamedSaved : Saved → Type 0
IsNamedSaved s = is_named s.name ≡ true

over-named : (saved : List Saved) (s : Saved) → AllByRecursion IsNamedSaved saved → IsNamedSaved s → AllByRecursion IsNamedSaved (saved_over saved s)
over-named [] s h n = (n, tt)
over-named (x ∷ saved) s h n = at (over-named saved s h.1 n) (bytes_eq x.name s.name)
  where
    at : AllByRecursion IsNamedSaved (saved_over saved s) → (b : Bool) → AllByRecursion IsNamedSaved (if b then s ∷ saved else x ∷ saved_over saved s)
    at others true = (n, h.1)
    at others false = (h.0, others)

all-named : (saved : List Saved) (names : List (List ℕ)) (s : Snapshot) → AllByRecursion IsNamedSaved saved → AreNamed names → AllByRecursion IsNamedSaved (all_saved saved names s)
all-named saved [] s h n = h
all-named saved (name ∷ names) s h n =
    let new : Saved = record { name = name; snapshot = s } in
    all-named (saved_over saved new) names s (over-named saved new h n.0) n.1

module _ (o : Origin) (free : List FreeSave) (names : NamesSaves o.flat) (errands : NamesErrands o.plan) (frees : NamesFreeSaves free) where
  at-boundary : (k : ℕ) (q : Queue) → Boundary o k q → AreNamed (due_at o.plan k q.state ++ free_names k free)
  at-boundary k q x = both-named (due_at o.plan k q.state) (free_names k free) (due q.state.finished) (free-named k free frees.names)
    where
      due : (b : Bool) → AreNamed (if b then [] else q.state.saves ++ save_names k o.plan.errands)
      due true = tt
      due false = both-named q.state.saves (save_names k o.plan.errands) (saves-named o names x) (errands-named k o.plan.errands errands.errands)

  pub kept-named : (k : ℕ) (saved : List Saved) → Keeps o free k saved → AllByRecursion IsNamedSaved saved
  kept-named k saved (Keeps.at_first {k = j} {q = q} e b) = all-named [] (due_at o.plan j q.state ++ free_names j free) (snapshot_of o.flat.rows q.state) tt (at-boundary j q b)
  kept-named k saved (Keeps.at_next {k = j} {saved = before} {q = q} h b) =
      all-named before (due_at o.plan (suc j) q.state ++ free_names (suc j) free) (snapshot_of o.flat.rows q.state) (kept-named j before h) (at-boundary (suc j) q b)
