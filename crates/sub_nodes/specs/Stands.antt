-- What it means that a run of a table stands for a point of the run alone (own).
use Rattle.std.specs.Prelude.{◌≡◌, ℕ, zero, suc, Bool, true, false, List, [], ◌∷◌, ◌++◌, if◌then◌else◌, slice_get, Option, Some, None, ◌⊎◌}
use Rattle.vl_design.specs.vl_base.specs.declared.files.File.{File}
use Rattle.vl_design.specs.Syntax.{Stm, Task, Proc, Flat}
use Rattle.vl_design.specs.State.{State}
use Rattle.vl_design.specs.Functions.{scope_of}
use Rattle.vl_design.specs.Queue as queue
use Rattle.vl_design.specs.Queue.{Queue, Phase, Ended, Updated, wave_ended, updates_done}
use Rattle.vl_design.specs.Snapshots.{Snapshot}
use Rattle.vl_design.specs.Alone.{Origin, start, resumed}
use Rattle.vl_design.specs.Acts.{Point, Between, Inside, queue_at, state_at, committed_at, entered, Completes, reach, Calms, After, Before}
use Rattle.vl_design.specs.Laws.{IsUnrolled}
use Rattle.sub_nodes.specs.Nodes.{still, Trap, Apply, Table}
use Rattle.sub_nodes.specs.Implements.{Impls, bodies, IsTableOf}
use Rattle.sub_nodes.specs.Cycles.{Stage, committed_in, settled, cycle, served, is_trap}

module _ (T : Table) where
  -- node n is where a tick goes on, of which these waves are still to come; behind the last one the clock rises next
  abbrev pub Begins : List (List Proc) → ℕ → Type 0
  Begins [] n = n ≡ T.rise.first
  Begins (w ∷ ws) n =
      (update : ℕ) × Impls T.nodes update (bodies w) still n × ((to : ℕ) × (slice_get T.nodes update ≡ Some (Apply to)) × Begins ws to)

  -- node n is the update of a wave, behind which these are still to come
  abbrev pub Updates : List (List Proc) → ℕ → Type 0
  Updates ahead n = (to : ℕ) × (slice_get T.nodes n ≡ Some (Apply to)) × Begins ahead to

  -- node n does the statements that are left of a wave
  abbrev pub Goes : List (List Proc) → List Stm → ℕ → Type 0
  Goes ahead rest n = (update : ℕ) × Impls T.nodes update rest still n × Updates ahead update

  abbrev pub GoesBetween : Phase → List (List Proc) → ℕ → Type 0
  GoesBetween (queue.Wave left) ahead n = Goes ahead (bodies left) n
  GoesBetween Ended ahead n = Updates ahead n
  GoesBetween Updated ahead n = Begins ahead n

  -- node n is the one with which the run goes on from a point
  abbrev pub GoesFrom : Point → ℕ → Type 0
  GoesFrom (Between q) n = GoesBetween q.phase q.ahead n
  GoesFrom (Inside q rest from committed) n = (left : List Proc) × (q.phase ≡ queue.Wave left) × Goes q.ahead (rest ++ bodies left) n

  -- the run of the table is at this point
  pub record Stands (i : Stage) (p : Point) : Type 0 where
    pub state : i.state ≡ state_at p
    pub committed : i.committed ≡ committed_at p
    pub goes : GoesFrom p i.node

  -- the run of the table is at a trap: right before the effect of this call, at this point
  pub record StandsAtTrap (task : Task) (i : Stage) (p : Point) : Type 0 where
    pub to : ℕ
    pub state : i.state ≡ state_at p
    pub committed : i.committed ≡ committed_at p
    pub trap : slice_get T.nodes i.node ≡ Some (Trap task to)
    pub goes : GoesFrom p to

  -- the node that is next is a call's
  abbrev pub at_trap : Stage → Bool
  at_trap i = is_trap (slice_get T.nodes i.node)

-- evaluations lead from a queue to one with these values of nets, in which no process is pending
abbrev pub Settle : Flat → List File → (State → List (List ℕ)) → Queue → Type 0
Settle d files nets q = (pending : List Bool) × Calms d files q (record q { state = settled d files nets q.state; pending = pending })

-- so it is in a run where a wave has ended, where an update is done, and where it is resumed
pub record AreNets (o : Origin) (nets : State → List (List ℕ)) : Type 0 where
  pub ended : (c : ℕ) (p : Point) (left : List Proc) (q : Queue) → After o c p → (state_at p).finished ≡ false →
      (queue_at (entered o.flat o.files p)).phase ≡ queue.Wave left → reach o.flat o.files (entered o.flat o.files p) left ≡ Completes q → Settle o.flat o.files nets (wave_ended q)
  pub updated : (c : ℕ) (q : Queue) → After o c (Between q) → q.state.finished ≡ false → q.phase ≡ Ended → Settle o.flat o.files nets (updates_done o.flat o.files q)
  pub resumed : (s : Snapshot) → o.resume ≡ Some s → Settle o.flat o.files nets (resumed o.flat s)

-- a design without loops, a table of it, and what its nets settle in
pub record CanRun (o : Origin) (T : Table) (nets : State → List (List ℕ)) : Type 0 where
  pub unrolled : IsUnrolled o.flat
  pub table : IsTableOf o.flat T
  pub settle : AreNets o nets

module _ (o : Origin) (T : Table) where
  -- the run of the table stands for the run alone after c acts; or it is at a trap, right before act c + 1
  abbrev pub IsAt : ℕ → Stage → Type 0
  IsAt c i =
      ((p : Point) × After o c p × Stands T i p)
      ⊎ ((task : Task) × (p : Point) × Before o (suc c) task p × StandsAtTrap T task i p)

  module _ (nets : State → List (List ℕ)) where
    -- where a run begins: before time zero, or at the settled snapshot
    abbrev pub first_stage : Option Snapshot → Stage
    first_stage None = committed_in T.zero.first (start o.flat).state
    first_stage (Some s) = committed_in T.rise.first (settled o.flat o.files nets (resumed o.flat s).state)

    -- the run of the table, after so many acts: a cycle that comes to a trap does none yet, and serving it does it
    pub data Comes : ℕ → Stage → Type 0 where
      begins : Comes zero (first_stage o.resume)
      cycles : {c : ℕ} {i : Stage} → Comes c i → i.state.finished ≡ false → at_trap T i ≡ false →
          Comes (if at_trap T (cycle o.flat o.files nets T.nodes i) then c else suc c) (cycle o.flat o.files nets T.nodes i)
      serves : {c : ℕ} {i : Stage} → Comes c i → at_trap T i ≡ true → Comes (suc c) (served (scope_of o.flat o.files) T.nodes i)
