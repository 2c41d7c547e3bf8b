-- The queues that a run comes to, and those in which its nets are calm.
use Rattle.std.specs.Prelude.{◌≡◌, ℕ, Bool, List, [], Some, None}
use Rattle.vl_paths.specs.vl_base.specs.declared.files.File.{File}
use Rattle.vl_paths.specs.vl_design.specs.Syntax.{Flat}
use Rattle.vl_paths.specs.vl_design.specs.Queue.{Queue, Updated, first_pending, next}
use Rattle.vl_paths.specs.vl_design.specs.Alone.{Origin, first_queue, risen}
use Rattle.vl_paths.specs.vl_design.specs.Acts.{Calms}
use Rattle.vl_runs.specs.NetsOfSettle.{AreSolved}

-- a run begins; each event leads on; and where there is none, the next tick begins
pub data Comes (o : Origin) : Queue → Type 0 where
  begins : Comes o (first_queue o o.resume)
  goes : {q r : Queue} → Comes o q → next o.flat o.files q ≡ Some r → Comes o r
  rises : {q : Queue} → Comes o q → next o.flat o.files q ≡ None → Comes o (risen o.flat q)

-- no process is pending, and each is solved
pub record IsCalm (d : Flat) (files : List File) (q : Queue) : Type 0 where
  pub none : first_pending d.procs q.pending ≡ None
  pub solved : AreSolved d files q.state

-- and the tick is over
pub record IsAtRest (d : Flat) (files : List File) (q : Queue) : Type 0 where
  pub calm : IsCalm d files q
  pub updated : q.phase ≡ Updated
  pub last : q.ahead ≡ []

-- a queue with other values, in which other processes are pending
abbrev pub with_values : Queue → List (List ℕ) → List Bool → Queue
with_values q values pending = record q { state = record (q.state) { values = values }; pending = pending }

-- evaluations alone lead to a queue with other values, which is calm
pub record Calmed (d : Flat) (files : List File) (q : Queue) : Type 0 where
  pub values : List (List ℕ)
  pub pending : List Bool
  pub calms : Calms d files q (with_values q values pending)
  pub calm : IsCalm d files (with_values q values pending)
