-- Where a point of a run act by act stands in the run by events: in which wave, in which block, and at which act of its log
-- (own).
use Rattle.std.specs.Prelude.{◌≡◌, ℕ, zero, nat_lt, Bool, true, false, List, ◌∷◌, ◌++◌, Option, Some, None}
use Rattle.vl_paths.specs.vl_design.specs.Syntax.{Stm, Proc, Task}
use Rattle.vl_paths.specs.vl_design.specs.State.{State}
use Rattle.vl_paths.specs.vl_design.specs.Exec.{exec}
use Rattle.vl_paths.specs.vl_design.specs.Functions.{scope_of}
use Rattle.vl_paths.specs.vl_design.specs.Queue.{Queue, Phase, Wave, Ended, Updated, first_pending, executed}
use Rattle.vl_paths.specs.vl_design.specs.Snapshots.{Snapshot}
use Rattle.vl_paths.specs.vl_design.specs.Alone.{Origin, start}
use Rattle.vl_paths.specs.vl_design.specs.Acts.{Point, Between, Inside, entered_by}
use Rattle.vl_runs.specs.Runs.{Comes}
use Rattle.vl_runs.specs.Log.{Moment, moments, exec_all, all_moments}

-- the queue stands in a wave that began with these values: that of time zero, or one behind an update, where no process was
-- pending
pub data InWave (o : Origin) (committed : List (List ℕ)) : Queue → Type 0 where
  at_zero : o.resume ≡ None → committed ≡ (start o.flat).state.values → InWave o committed (start o.flat)
  behind : {q : Queue} → Comes o q → q.state.finished ≡ false → q.phase ≡ Updated → first_pending o.flat.procs q.pending ≡ None →
      committed ≡ q.state.values → InWave o committed (entered_by o.flat o.files q Updated q.ahead)
  -- the wave's next block is done, whole
  runs : {q : Queue} {p : Proc} {ps : List Proc} → InWave o committed q → q.state.finished ≡ false → q.phase ≡ Wave (p ∷ ps) →
      InWave o committed (executed o.flat o.files q p ps)

-- where a point between waves stands: before time zero, or behind the end of a wave or an update, where no process is pending
pub data Stage (o : Origin) (q : Queue) : Type 0 where
  at_start : o.resume ≡ None → q ≡ start o.flat → Stage o q
  at_end : q.phase ≡ Ended → first_pending o.flat.procs q.pending ≡ None → Stage o q
  at_update : q.phase ≡ Updated → first_pending o.flat.procs q.pending ≡ None → Stage o q

-- a block that began with the values `from`, in a wave that began with the committed ones, is at an act of its log: behind it
-- this rest does the other acts, and leads to where the block leads as a whole
pub record IsAt (o : Origin) (q : Queue) (rest : List Stm) (from committed : List (List ℕ)) (m : Moment) : Type 0 where
  -- the queue in which the block begins
  pub first : Queue
  pub wave : InWave o committed first
  pub comes : Comes o first
  pub alive : first.state.finished ≡ false
  pub proc : Proc
  pub left : List Proc
  pub next : first.phase ≡ Wave (proc ∷ left)
  pub began : from ≡ first.state.values
  pub running : m.before.finished ≡ false
  -- the acts of the block before this one
  pub before : List Moment
  pub log : moments (scope_of o.flat o.files) proc.body first.state ≡ before ++ (m ∷ all_moments (scope_of o.flat o.files) rest m.after)
  pub leads : exec_all (scope_of o.flat o.files) rest m.after ≡ exec (scope_of o.flat o.files) proc.body first.state
  -- of the queue all but the state is as the whole block leaves it, but that nobody is woken yet
  pub phase : q.phase ≡ Wave left
  pub ahead : q.ahead ≡ first.ahead
  pub pending : q.pending ≡ first.pending

-- ---- nets

abbrev pub is_behind : Phase → Bool
is_behind (Wave ps) = false
is_behind Ended = true
is_behind Updated = true

-- the point is behind the wave of time zero, or in a run that began at a snapshot
abbrev pub has_settled : Option Snapshot → Point → Bool
has_settled (Some s) p = true
has_settled None (Between q) = is_behind q.phase
has_settled None (Inside q rest from committed) = nat_lt 0 q.state.ticks

-- ---- the log of a run

-- the moment is in the log of a block of the run by events
pub record Happens (o : Origin) (m : Moment) : Type 0 where
  -- the queue in which the block begins
  pub first : Queue
  pub comes : Comes o first
  pub alive : first.state.finished ≡ false
  pub proc : Proc
  pub left : List Proc
  pub next : first.phase ≡ Wave (proc ∷ left)
  pub before : List Moment
  pub behind : List Moment
  pub log : moments (scope_of o.flat o.files) proc.body first.state ≡ before ++ (m ∷ behind)

-- s is the state right after act c, by the count of the state itself: where the run begins, behind an act in a block's log, or
-- where no process is pending any more behind the end of a wave or an update
pub data LogAfter (o : Origin) : ℕ → State → Type 0 where
  begins : o.resume ≡ None → LogAfter o zero (start o.flat).state
  in_block : {m : Moment} → Happens o m → LogAfter o m.after.count m.after
  behind_wave : {q : Queue} → Comes o q → q.state.finished ≡ false → q.phase ≡ Ended → first_pending o.flat.procs q.pending ≡ None →
      LogAfter o q.state.count q.state
  behind_update : {q : Queue} → Comes o q → q.state.finished ≡ false → q.phase ≡ Updated → first_pending o.flat.procs q.pending ≡ None →
      LogAfter o q.state.count q.state

-- s is the state right before the effect of act c, which is this call
pub data LogBefore (o : Origin) : ℕ → Task → State → Type 0 where
  before_call : {m : Moment} (task : Task) → Happens o m → m.task ≡ Some task → LogBefore o m.after.count task m.before
