-- What is observed of a run alone, and when two runs are the same (own).
use Rattle.std.specs.Prelude.{◌≡◌, ℕ, Bool, List}
use Rattle.vl_base.specs.declared.files.OpenFile.{OpenFile}
use Rattle.vl_design.specs.Syntax.{Row}
use Rattle.vl_design.specs.State.{State}
use Rattle.vl_design.specs.Queue.{Queue}
use Rattle.vl_design.specs.Snapshots.{kept_words}
use Rattle.vl_design.specs.Alone.{Origin, Boundary}

-- the bytes printed, the acts counted, the ticks begun, whether a `$finish` was done, the names of the snapshots asked for
-- in this tick, the open files, and the words that a snapshot holds
pub record Observed : Type 0 where
  pub printed : List ℕ
  pub count : ℕ
  pub ticks : ℕ
  pub finished : Bool
  pub saves : List (List ℕ)
  pub table : List OpenFile
  pub words : List ℕ

abbrev pub observed : List Row → State → Observed
observed rows s = record {
  printed = s.printed;
  count = s.count;
  ticks = s.ticks;
  finished = s.finished;
  saves = s.saves;
  table = s.table;
  words = kept_words rows s.values;
}

-- what is observed of the first run at a boundary is observed of the second at that boundary
abbrev pub Follows : Origin → Origin → Type 0
Follows o u = (k : ℕ) (q : Queue) → Boundary o k q → (r : Queue) × Boundary u k r × (observed o.flat.rows q.state ≡ observed u.flat.rows r.state)

-- the runs are the same: they come to the same boundaries, and there is observed the same of both
pub record IsSameRun (o u : Origin) : Type 0 where
  pub there : Follows o u
  pub back : Follows u o
