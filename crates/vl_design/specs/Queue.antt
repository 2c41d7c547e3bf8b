-- One event of the queue (IEEE 1364-2005, clauses 11 and 9.7; the order among active events is own).
use Rattle.std.specs.Prelude.{ℕ, Bool, true, false, not, ◌||◌, ◌&&◌, List, [], ◌∷◌, slice_index_or, if◌then◌else◌, Option, Some, None}
use Rattle.std.specs.Str.{bytes_eq}
use Rattle.vl_base.specs.declared.files.File.{File}
use Rattle.vl_design.specs.declared.design.ProcKind.{ProcKind}
use Rattle.vl_design.specs.declared.design.ProcKind.TheVariants.{Init, Rise, Fall, Comb, Assign}
use Rattle.vl_design.specs.Syntax.{Nop, Row, Proc, Flat}
use Rattle.vl_design.specs.Width.{Scope}
use Rattle.vl_design.specs.Value.{words_of}
use Rattle.vl_design.specs.State.{State, counted, all_updated}
use Rattle.vl_design.specs.Exec.{exec}
use Rattle.vl_design.specs.Functions.{scope_of, zeros, fresh}
use Rattle.vl_design.specs.Turns.{turns_read}

-- where a run stands in its tick: in a wave, of which these processes are left; behind its end; behind the update
pub data Phase : Type 0 where
  Wave : (blocks : List Proc) → Phase
  Ended : Phase
  Updated : Phase

pub record Queue : Type 0 where
  pub state : State
  pub phase : Phase
  -- the waves of this tick that are still to come
  pub ahead : List (List Proc)
  -- for each process whether it is pending
  pub pending : List Bool

-- a signal has other words in two lists
abbrev pub changed : List (List ℕ) → List (List ℕ) → ℕ → Bool
changed xs ys k = not (bytes_eq (words_of xs k) (words_of ys k))

abbrev pub is_init : ProcKind → Bool
is_init Init = true
is_init k = false

abbrev pub is_rise : ProcKind → Bool
is_rise Rise = true
is_rise k = false

abbrev pub is_fall : ProcKind → Bool
is_fall Fall = true
is_fall k = false

-- a combinational process
abbrev pub is_comb : ProcKind → Bool
is_comb Comb = true
is_comb Assign = true
is_comb k = false

-- those pending, and each combinational process that reads a changed signal: its loops are asked turn by turn, from loop
-- variables that are 0
abbrev pub woken : Scope → (ℕ → Bool) → List Proc → List Bool → List Bool
woken scope p [] bs = []
woken scope p (x ∷ xs) [] = []
woken scope p (x ∷ xs) (b ∷ bs) =
    (b || (is_comb x.kind && turns_read scope p x.body (fresh (zeros scope.names.rows)))) ∷ woken scope p xs bs

-- the process of a number; one past the last does nothing
abbrev pub proc_at : Flat → ℕ → Proc
proc_at d i = slice_index_or d.procs i (record { kind = Init; events = []; body = Nop })

-- the process of a number is pending
abbrev pub is_pending : List Bool → ℕ → Bool
is_pending pending i = slice_index_or pending i false

-- the pending process that is lowest in text order
abbrev pub first_pending : List Proc → List Bool → Option Proc
first_pending [] bs = None
first_pending (p ∷ ps) [] = None
first_pending (p ∷ ps) (true ∷ bs) = Some p
first_pending (p ∷ ps) (false ∷ bs) = first_pending ps bs

-- the lowest pending process is no longer pending
abbrev pub first_done : List Bool → List Bool
first_done [] = []
first_done (true ∷ bs) = false ∷ bs
first_done (false ∷ bs) = false ∷ first_done bs

-- all nonblocking updates done, in order
abbrev pub with_updates : List Row → State → State
with_updates rows s = record s { values = all_updated rows s.values s.later; later = [] }

-- the queue after an event that led to the state s
abbrev pub moved : Scope → List Proc → Queue → State → Phase → List Bool → Queue
moved scope procs q s phase pending = record {
  state = s;
  phase = phase;
  ahead = q.ahead;
  pending = woken scope (changed q.state.values s.values) procs pending;
}

-- the wave ends: a counted act
abbrev pub wave_ended : Queue → Queue
wave_ended q = record q { state = counted q.state; phase = Ended }

module _ (d : Flat) (files : List File) where
  -- the update: a counted act, also where nothing is to be done
  abbrev pub updates_done : Queue → Queue
  updates_done q = moved (scope_of d files) d.procs q (counted (with_updates d.rows q.state)) Updated q.pending

  -- the lowest pending process is evaluated and its values are assigned
  abbrev pub evaluated : Queue → Proc → Queue
  evaluated q p = moved (scope_of d files) d.procs q (exec (scope_of d files) p.body q.state) q.phase (first_done q.pending)

  -- the next block of the wave, whole
  abbrev pub executed : Queue → Proc → List Proc → Queue
  executed q p ps = moved (scope_of d files) d.procs q (exec (scope_of d files) p.body q.state) (Wave ps) q.pending

  -- where no process is pending: the update, or the next wave of the tick
  abbrev pub next_phase : Queue → Phase → List (List Proc) → Option Queue
  next_phase q (Wave ps) ahead = None
  next_phase q Ended ahead = Some (updates_done q)
  next_phase q Updated [] = None
  next_phase q Updated (w ∷ ws) = Some (record q { phase = Wave w; ahead = ws })

  abbrev pub next_pending : Queue → Option Proc → Option Queue
  next_pending q None = next_phase q q.phase q.ahead
  next_pending q (Some p) = Some (evaluated q p)

  abbrev pub next_event : Queue → Phase → Option Queue
  next_event q (Wave (p ∷ ps)) = Some (executed q p ps)
  next_event q (Wave []) = Some (wave_ended q)
  next_event q phase = next_pending q (first_pending d.procs q.pending)

  -- one event: the next block of the wave, whole, or the wave's end; behind it the lowest pending process; else the
  -- update; behind that the next wave. None where the run is quiet or has finished
  abbrev pub next : Queue → Option Queue
  next q = if q.state.finished then None else next_event q q.phase
