-- Machines that stand for the queues which a run comes to (IEEE 1364-2005, clause 11).
use Rattle.std.specs.Prelude.{◌≡◌, ◌<◌, ℕ, false, Bool, List, [], None}
use Rattle.std.specs.List.{list_any}
use Rattle.vl_eval.specs.vl_base.specs.declared.files.File.{File}
use Rattle.vl_eval.specs.vl_design.specs.declared.design.ProcKind.{ProcKind}
use Rattle.vl_eval.specs.vl_design.specs.declared.design.ProcKind.TheVariants.{Init, Rise, Fall}
use Rattle.vl_eval.specs.vl_design.specs.Syntax.{Proc, Flat}
use Rattle.vl_eval.specs.vl_design.specs.Queue.{Queue, Phase, Wave, Updated, first_pending, is_init, is_rise, is_fall}
use Rattle.vl_eval.specs.vl_design.specs.Alone.{Origin, Settles, Boundary, blocks, reason_at}
use Rattle.vl_run.specs.declared.machine.Machine.{Machine}
use Rattle.vl_run.specs.Machines.{state_of}
use Rattle.vl_runs.specs.Nets.{pass}
use Rattle.vl_runs.specs.NetsOfSettle.{run}
use Rattle.vl_runs.specs.Runs.{Comes}

-- a design alone from time zero over these files, for at most so many ticks
abbrev pub over : Flat → List File → ℕ → Origin
over d files budget = record { flat = d; files = files; plan = record { budget = budget; errands = [] }; resume = None }

-- a process of this kind belongs to a wave of that kind
abbrev pub is_of : ProcKind → ProcKind → Bool
is_of Init kind = is_init kind
is_of Rise kind = is_rise kind
is_of Fall kind = is_fall kind
is_of wave kind = false

-- the processes of a wave
abbrev pub wave_of : Flat → ProcKind → List Proc
wave_of d wave = blocks (is_of wave) d.procs

-- a block waits for the clock's fall
abbrev pub has_fall : Flat → Bool
has_fall d = list_any (λ p. is_fall p.kind) d.procs

-- ---- queues

-- the queue is in this phase of its tick, of which these waves are ahead
pub record IsAt (at : Phase) (waves : List (List Proc)) (q : Queue) : Type 0 where
  pub phase : q.phase ≡ at
  pub ahead : q.ahead ≡ waves

-- and no process is pending
pub record IsQuietAt (d : Flat) (at : Phase) (waves : List (List Proc)) (q : Queue) : Type 0 where
  pub place : IsAt at waves q
  pub none : first_pending d.procs q.pending ≡ None

-- the update behind a wave is done and its nets are quiet, or the run has finished before
abbrev pub IsDone : Flat → Machine → List (List Proc) → Queue → Type 0
IsDone d m waves q = m.finished ≡ false → IsQuietAt d Updated waves q

-- where b settles, a settles
abbrev pub Precedes : Flat → List File → Queue → Queue → Type 0
Precedes d files a b = (q : Queue) → Settles d files b q → Settles d files a q

-- a queue of this kind, which the run comes to behind the first one, stands for the machine
pub record StandsBehind (d : Flat) (files : List File) (first : Queue) (IsThere : Queue → Type 0) (m : Machine) : Type 0 where
  pub queue : Queue
  pub count : ℕ
  pub state : queue.state ≡ state_of m count
  pub there : IsThere queue
  pub comes : Comes (over d files 0) queue
  pub leads : Precedes d files first queue

-- ---- from one machine to another

-- one evaluation of each combinational process of the order, one after another
abbrev pub Passes : Flat → List File → List ℕ → Machine → Machine → Type 0
Passes d files order m m' = (c : ℕ) → state_of m' c ≡ record (state_of m c) { values = pass (run d files (state_of m c)) order m.values.items }

-- so far from a machine before these processes: a machine before those
pub record Reaches (d : Flat) (files : List File) (from : List Proc) (m : Machine) (to : List Proc) (m' : Machine) : Type 0 where
  pub leads : (first : Queue) (waves : List (List Proc)) → StandsBehind d files first (IsAt (Wave from) waves) m →
      StandsBehind d files first (IsAt (Wave to) waves) m'

-- a wave is over, or the run has finished in it
pub record RunsWave (d : Flat) (files : List File) (from : List Proc) (m m' : Machine) : Type 0 where
  pub left : List Proc
  pub reaches : Reaches d files from m left m'
  pub over : m'.finished ≡ false → left ≡ []

-- from one machine at a wave, of which these blocks are left, to one behind its update
pub record SettlesAs (d : Flat) (files : List File) (from : List Proc) (m m' : Machine) : Type 0 where
  pub leads : (first : Queue) (waves : List (List Proc)) → StandsBehind d files first (IsAt (Wave from) waves) m →
      StandsBehind d files first (IsDone d m' waves) m'

-- from one machine behind an update to one behind the last update of the tick
pub record Completes (d : Flat) (files : List File) (waves : List (List Proc)) (m m' : Machine) : Type 0 where
  pub leads : (first : Queue) → StandsBehind d files first (IsDone d m waves) m → StandsBehind d files first (IsDone d m' []) m'

-- ---- boundaries

-- a queue that the run comes to stands for this machine; the tick is over, or the run has finished
pub record Rests (d : Flat) (files : List File) (q : Queue) (m : Machine) : Type 0 where
  pub count : ℕ
  pub state : q.state ≡ state_of m count
  pub done : IsDone d m [] q
  pub comes : Comes (over d files 0) q

-- the run stands at boundary k in a queue that stands for this machine
abbrev pub StandsAt : Flat → List File → ℕ → ℕ → Machine → Type 0
StandsAt d files budget k m = (q : Queue) × Boundary (over d files budget) k q × Rests d files q m

-- no boundary before k has a reason to end
abbrev pub GoesOn : Flat → List File → ℕ → ℕ → Type 0
GoesOn d files budget k = (j : ℕ) (b : Queue) → j < k → Boundary (over d files budget) j b → reason_at (over d files budget).plan j b ≡ None
