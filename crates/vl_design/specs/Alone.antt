-- The run of a design alone: from time zero or a snapshot, tick by tick, to its end (IEEE 1364-2005, clause 11; ticks and
-- errands are own).
use Rattle.std.specs.Prelude.{◌≡◌, ℕ, zero, suc, ◌+◌, ◌<◌, Bool, true, false, ◌&&◌, List, [], ◌∷◌, ◌++◌, if◌then◌else◌, nat_le, ◌==◌, Option, Some, None, map, filter}
use Rattle.std.specs.List.{list_any}
use Rattle.vl_base.specs.declared.files.File.{File}
use Rattle.vl_design.specs.declared.design.ProcKind.{ProcKind}
use Rattle.vl_design.specs.declared.design.End.{End}
use Rattle.vl_design.specs.declared.design.End.TheVariants.{Finished, Budget, Stopped}
use Rattle.vl_design.specs.Syntax.{Proc, Flat}
use Rattle.vl_design.specs.State.{State}
use Rattle.vl_design.specs.Functions.{zeros, fresh}
use Rattle.vl_design.specs.Queue.{Queue, Wave, Updated, next, is_init, is_rise, is_fall, is_comb}
use Rattle.vl_design.specs.Snapshots.{Snapshot, Saved, snapshot_of, kept_values, all_saved}

-- ---- what a run starts from

-- what is done at a tick
pub data Due : Type 0 where
  SaveAs : (name : List ℕ) → Due
  Stop : Due
  Move : (fabric : ℕ) → Due

pub record Errand : Type 0 where
  pub tick : ℕ
  pub due : Due

-- the most ticks, and the errands in ascending order of ticks
pub record Plan : Type 0 where
  pub budget : ℕ
  pub errands : List Errand

-- a design, its files, its plan, and the snapshot from which it is resumed, if it is
pub record Origin : Type 0 where
  pub flat : Flat
  pub files : List File
  pub plan : Plan
  pub resume : Option Snapshot

-- ---- settling

-- b is the first state that is quiet or finished, from a on
pub data Settles (d : Flat) (files : List File) : Queue → Queue → Type 0 where
  rests : {q : Queue} → next d files q ≡ None → Settles d files q q
  goes : {q r s : Queue} → next d files q ≡ Some r → Settles d files r s → Settles d files q s

-- the processes of a kind, in text order
abbrev pub blocks : (ProcKind → Bool) → List Proc → List Proc
blocks p procs = filter (λ x. p x.kind) procs

abbrev pub all_comb : List Proc → List Bool
all_comb procs = map (λ p. is_comb p.kind) procs

-- before time zero: all values 0, the initial processes as the wave, each combinational one pending
abbrev pub start : Flat → Queue
start d = record { state = fresh (zeros d.rows); phase = Wave (blocks is_init d.procs); ahead = []; pending = all_comb d.procs }

-- at a snapshot: its values and open files, each combinational process pending
abbrev pub resumed : Flat → Snapshot → Queue
resumed d s = record {
  state = record (fresh (kept_values d.rows s.words)) { table = s.files; ticks = s.tick };
  phase = Updated;
  ahead = [];
  pending = all_comb d.procs;
}

-- the waves of a tick behind its rise: the fall's, where a block waits for it
abbrev pub falls : List Proc → List (List Proc)
falls [] = []
falls (p ∷ ps) = (p ∷ ps) ∷ []

-- one more tick begins: the clock rises
abbrev pub risen : Flat → Queue → Queue
risen d q =
    if q.state.finished then q
    else record q {
      state = record (q.state) { ticks = q.state.ticks + 1; saves = [] };
      phase = Wave (blocks is_rise d.procs);
      ahead = falls (blocks is_fall d.procs);
    }

-- ---- boundaries

abbrev pub first_queue : Origin → Option Snapshot → Queue
first_queue o None = start o.flat
first_queue o (Some s) = resumed o.flat s

abbrev pub first_tick : Option Snapshot → ℕ
first_tick None = 0
first_tick (Some s) = s.tick

-- the run at boundary k: quiet after time zero or the resumption, and after each tick from there on, or finished
pub data Boundary (o : Origin) : ℕ → Queue → Type 0 where
  begun : {k : ℕ} {q : Queue} → k ≡ first_tick o.resume → Settles o.flat o.files (first_queue o o.resume) q → Boundary o k q
  ticked : {k : ℕ} {before after : Queue} → Boundary o k before → Settles o.flat o.files (risen o.flat before) after → Boundary o (suc k) after

-- ---- the end

abbrev pub stops : Due → Bool
stops Stop = true
stops due = false

-- a stop stands at tick k
abbrev pub stop_at : ℕ → List Errand → Bool
stop_at k errands = list_any (λ e. (e.tick == k) && stops e.due) errands

-- why a run ends at boundary k, in the state there
abbrev pub reason_at : Plan → ℕ → Queue → Option End
reason_at plan k q =
    if q.state.finished then Some Finished
    else if nat_le plan.budget k then Some Budget
    else if stop_at k plan.errands then Some Stopped
    else None

-- the run ends at boundary k, for this reason, in this state: at the first boundary that has a reason
pub record Ends (o : Origin) (k : ℕ) (reason : End) (q : Queue) : Type 0 where
  pub at : Boundary o k q
  pub why : reason_at o.plan k q ≡ Some reason
  pub first : (j : ℕ) (b : Queue) → j < k → Boundary o j b → reason_at o.plan j b ≡ None

-- ---- saves

abbrev pub save_name : ℕ → ℕ → Due → List (List ℕ)
save_name k t (SaveAs name) = if t == k then name ∷ [] else []
save_name k t due = []

abbrev pub save_names : ℕ → List Errand → List (List ℕ)
save_names k [] = []
save_names k (e ∷ es) = save_name k e.tick e.due ++ save_names k es

-- the names of the snapshots that are due at boundary k, in the state there: those asked for in that tick in order,
-- then the errands'; none where the run has finished
abbrev pub due_at : Plan → ℕ → State → List (List ℕ)
due_at plan k s = if s.finished then [] else s.saves ++ save_names k plan.errands

-- a snapshot that is made besides, at a tick
pub record FreeSave : Type 0 where
  pub name : List ℕ
  pub tick : ℕ

abbrev pub free_names : ℕ → List FreeSave → List (List ℕ)
free_names k free = map (λ f. f.name) (filter (λ f. f.tick == k) free)

-- the snapshots kept before, and those made at boundary k
abbrev pub saved_at : Origin → List FreeSave → List Saved → ℕ → State → List Saved
saved_at o free saved k s = all_saved saved (due_at o.plan k s ++ free_names k free) (snapshot_of o.flat.rows s)

-- the snapshots kept up to boundary k
pub data Keeps (o : Origin) (free : List FreeSave) : ℕ → List Saved → Type 0 where
  at_first : {k : ℕ} {q : Queue} → k ≡ first_tick o.resume → Boundary o k q → Keeps o free k (saved_at o free [] k q.state)
  at_next : {k : ℕ} {saved : List Saved} {q : Queue} → Keeps o free k saved → Boundary o (suc k) q → Keeps o free (suc k) (saved_at o free saved (suc k) q.state)

-- ---- for worked rows: the run by so many events at a time

abbrev pub settled_by : Queue → (Queue → Option Queue) → Option Queue → Option Queue
settled_by q go None = Some q
settled_by q go (Some r) = go r

-- the state that the run settles in, where that takes less than n events
abbrev pub settled : Flat → List File → ℕ → Queue → Option Queue
settled d files zero q = None
settled d files (suc n) q = settled_by q (settled d files n) (next d files q)

abbrev pub then_by : (Queue → Option Queue) → Option Queue → Option Queue
then_by go None = None
then_by go (Some q) = go q

-- the state k ticks later
abbrev pub later_by : Flat → List File → ℕ → ℕ → Queue → Option Queue
later_by d files n zero q = Some q
later_by d files n (suc k) q = then_by (later_by d files n k) (settled d files n (risen d q))

-- the run k ticks after its start
abbrev pub run_by : Origin → ℕ → ℕ → Option Queue
run_by o n k = then_by (later_by o.flat o.files n k) (settled o.flat o.files n (first_queue o o.resume))

-- the run has printed these bytes at boundary k, and done so many counted acts
abbrev pub Shows : Origin → ℕ → List ℕ → ℕ → Type 0
Shows o k bytes count = (q : Queue) × Boundary o k q × (q.state.printed ≡ bytes) × (q.state.count ≡ count)

abbrev pub shown : Option Queue → Option (List ℕ × ℕ)
shown None = None
shown (Some q) = Some (q.state.printed, q.state.count)
