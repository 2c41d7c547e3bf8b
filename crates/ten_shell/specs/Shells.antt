-- What it means that a shell stands, with a bank, for a point of its run alone (own).
use Rattle.std.specs.Prelude.{◌≡◌, ℕ, ◌≤◌, Bool, true, false, not, ◌&&◌, ◌||◌, List, [], ◌∷◌, ◌++◌, drop, length, map, if◌then◌else◌, slice_get}
use Rattle.std.specs.Arc.{arc_value}
use Rattle.std.specs.List.{AllByRecursion}
use Rattle.vl_design.specs.vl_base.specs.Files.{IsFileSet}
use Rattle.vl_design.specs.Alone as alone
use Rattle.vl_design.specs.Alone.{Plan, due_at, first_tick, save_names}
use Rattle.vl_design.specs.Laws.{StartsFine, StartsOpen}
use Rattle.vl_design.specs.Snapshots as run
use Rattle.vl_design.specs.Syntax.{Flat}
use Rattle.ten_core.specs.cell_form.specs.Data.{BankData}
use Rattle.ten_core.specs.sub_nodes.specs.Code.{table_of}
use Rattle.ten_core.specs.sub_nodes.specs.Cycles.{Stage, rises}
use Rattle.ten_core.specs.sub_nodes.specs.Stands.{at_trap}
use Rattle.ten_core.specs.declared.engine.Engine.{Engine}
use Rattle.ten_core.specs.declared.origin.Origin.{Origin}
use Rattle.ten_core.specs.Runs.{IsAt, IsTame}
use Rattle.ten_core.specs.Tenants.{origin_of, tenant_of}
use Rattle.ten_core.specs.Holding.{CanBeHeld}
use Rattle.ten_core.specs.Begins.{CanBegin}
use Rattle.ten_plan.specs.Held.{free_of, saved_of}
use Rattle.ten_plan.specs.Plans.{AreBefore, AreDone, IsPlan}
use Rattle.ten_core.specs.Running.{goes_on, is_at_rest, IsRunning}
use Rattle.ten_shell.specs.declared.shell.Beat.{Beat}
use Rattle.ten_shell.specs.declared.shell.Beat.TheVariants.{Ran, Trap, TickEnd}
use Rattle.ten_shell.specs.declared.shell.Shell.{Shell}
use Rattle.ten_shell.specs.Keeping.{KeepsAt, KeepsOn}

-- the run alone that the shell's is
abbrev pub run_of : Shell → alone.Origin
run_of s = origin_of (arc_value s.engine.origin)

abbrev pub flat_in : Shell → Flat
flat_in s = (run_of s).flat

-- the snapshots that it keeps, and those of them that were made besides
abbrev pub saved_in : Shell → List run.Saved
saved_in s = map (saved_of (flat_in s).rows) s.saved.items

abbrev pub free_in : Shell → List alone.FreeSave
free_in s = map free_of s.free.items

-- the names of the snapshots that errands ask for at this boundary and that are still to be made
abbrev pub errands_left : Shell → List (List ℕ)
errands_left s = save_names s.engine.ticks (drop s.done (run_of s).plan.errands)

-- the names of all that are still to be made there: those asked for in its tick, then the errands'
abbrev pub left_in : Shell → List (List ℕ)
left_in s = drop s.given s.engine.asked.items ++ errands_left s

-- at a boundary, where the clock rises next
abbrev pub is_at_boundary : Flat → Stage → Bool
is_at_boundary d i = not i.state.finished && rises (slice_get (table_of d).nodes i.node)

-- ---- what is kept

-- at a boundary
pub record KeepsThere (s : Shell) (i : Stage) : Type 0 where
  pub keeps : KeepsAt (run_of s) (free_in s) i.state.ticks i.state (saved_in s) (left_in s)
  pub given : s.given ≤ length s.engine.asked.items
  pub done : AreDone (run_of s).plan.errands i.state.ticks s.done

-- elsewhere
pub record KeepsElsewhere (s : Shell) (i : Stage) : Type 0 where
  pub keeps : KeepsOn (run_of s) (free_in s) i.state.ticks (saved_in s)
  pub given : s.given ≡ 0
  pub done : AreBefore (run_of s).plan.errands i.state.ticks s.done

abbrev pub KeepsIn : Bool → Shell → Stage → Type 0
KeepsIn true s i = KeepsThere s i
KeepsIn false s i = KeepsElsewhere s i

-- ---- points

-- with this bank the shell stands for its run after c acts, in this stage
pub record StandsFor (s : Shell) (b : BankData) (c : ℕ) (i : Stage) : Type 0 where
  pub order : List ℕ
  pub running : IsRunning (run_of s) order c i
  pub at : IsAt (run_of s) order (tenant_of s.engine b) c i
  pub held : CanBeHeld (flat_in s)
  pub plan : IsPlan (run_of s).plan
  pub files : IsFileSet (run_of s).files
  pub opens : StartsOpen (run_of s).files (run_of s).resume
  pub free : AllByRecursion (λ f. f.tick ≤ i.state.ticks) (free_in s)
  pub keeps : KeepsIn (is_at_boundary (flat_in s) i) s i

-- it may do one cycle: no call waits, no snapshot is left to be made, and the run goes on
pub record MayCycle (s : Shell) (i : Stage) : Type 0 where
  pub no_call : s.engine.waits ≡ false
  pub saved : is_at_boundary (flat_in s) i ≡ true → left_in s ≡ []
  pub goes_on : goes_on (run_of s).plan (flat_in s) i ≡ true

-- what a cycle came to: a call that waits, the end of a tick, or neither
abbrev pub beat_of : Flat → Stage → Beat
beat_of d i = if at_trap (table_of d) i then Trap else if rises (slice_get (table_of d).nodes i.node) then TickEnd else Ran

-- it rests: at a boundary, where no snapshot is left to be made, or after `$finish`
pub record Rests (s : Shell) (i : Stage) : Type 0 where
  pub rests : is_at_rest (flat_in s) i ≡ true
  pub saved : i.state.finished ≡ false → left_in s ≡ []

-- what is left to be made where the run comes to a boundary: all that is due there
abbrev pub left_at : alone.Origin → Stage → List (List ℕ)
left_at o i = due_at o.plan i.state.ticks i.state

-- something is left to be made
abbrev pub is_left : List (List ℕ) → Bool
is_left [] = false
is_left (name ∷ names) = true

-- it rests there
abbrev pub rests_in : Shell → Stage → Bool
rests_in s i = i.state.finished || (rises (slice_get (table_of (flat_in s)).nodes i.node) && not (is_left (left_in s)))

-- it waits: a call is to be served, or a snapshot to be made
abbrev pub waits_in : Shell → Stage → Bool
waits_in s i = s.engine.waits || (is_at_boundary (flat_in s) i && is_left (left_in s))

-- the same tenant: its number, what it started from, the snapshots made besides, and whether it was stopped
pub record IsSameTenant (r s : Shell) : Type 0 where
  pub number : s.number ≡ r.number
  pub origin : s.engine.origin ≡ r.engine.origin
  pub free : s.free.items ≡ r.free.items
  pub stopped : s.stopped ≡ r.stopped

-- nothing has changed, with these banks
pub record IsUnchanged (r s : Shell) (a b : BankData) : Type 0 where
  pub moved : s.moved ≡ r.moved
  pub tenant : tenant_of s.engine b ≡ tenant_of r.engine a
  pub saved : s.saved.items ≡ r.saved.items
  pub given : s.given ≡ r.given
  pub done : s.done ≡ r.done
  pub same : IsSameTenant r s

-- ---- shells of runs that have begun

-- the run of this origin can begin, and be run
pub record CanRunOn (x : Origin) : Type 0 where
  pub begins : CanBegin x
  pub tame : IsTame (origin_of x) x.image.order.items
  pub start : StartsFine (origin_of x).flat.rows (origin_of x).resume
  pub opens : StartsOpen (origin_of x).files (origin_of x).resume
  pub plan : IsPlan (origin_of x).plan
  pub within : first_tick (origin_of x).resume ≤ (origin_of x).plan.budget
  pub files : IsFileSet (origin_of x).files

-- the shell of an engine that has begun
pub record IsBegunShell (n : ℕ) (e : Engine) (s : Shell) : Type 0 where
  pub number : s.number ≡ n
  pub engine : s.engine ≡ e
  pub saved : s.saved.items ≡ []
  pub free : s.free.items ≡ []
  pub moved : s.moved ≡ false
  pub stopped : s.stopped ≡ false
