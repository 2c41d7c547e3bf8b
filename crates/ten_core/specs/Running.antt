-- Runs of designs' tables on the way to their ends (own).
use Rattle.std.specs.Prelude.{◌≡◌, ℕ, ◌≤◌, ◌<◌, ◌+◌, ◌-◌, ◌*◌, ◌^◌, Bool, false, ◌&&◌, ◌||◌, not, nat_le, List, length, slice_get}
use Rattle.vl_design.specs.Alone.{Plan, Origin, first_tick, stop_at}
use Rattle.vl_design.specs.Laws.{IsUnrolled, StartsFine}
use Rattle.vl_design.specs.Syntax.{Flat}
use Rattle.ten_form.specs.vl_runs.specs.Checked.{IsChecked, IsOrder}
use Rattle.ten_form.specs.sub_nodes.specs.Code.{table_of}
use Rattle.ten_form.specs.sub_nodes.specs.Cycles.{Stage, rises}
use Rattle.ten_form.specs.sub_nodes.specs.Stands.{Comes}
use Rattle.ten_form.specs.sub_nodes.specs.Early.{early_from}
use Rattle.sub_runs.specs.Left.{left, most_left}
use Rattle.ten_form.specs.Nets.{nets_of}
use Rattle.ten_core.specs.Runs.{IsTame}

-- a run that hasn't finished ends at boundary k: its ticks are spent, or a stop stands there
abbrev pub ends_at : Plan → ℕ → Bool
ends_at plan k = nat_le plan.budget k || stop_at k plan.errands

-- a stage at which a run rests: at a boundary, where the clock rises next, or after `$finish`
abbrev pub is_at_rest : Flat → Stage → Bool
is_at_rest d i = i.state.finished || rises (slice_get (table_of d).nodes i.node)

-- from a stage the run goes on: it hasn't finished, and at a boundary it doesn't end
abbrev pub goes_on : Plan → Flat → Stage → Bool
goes_on plan d i = not i.state.finished && (not (rises (slice_get (table_of d).nodes i.node)) || not (ends_at plan i.state.ticks))

-- so many acts are still to come at most: in each tick that is left, and before the clock rises next
abbrev pub to_come : Flat → ℕ → Stage → ℕ
to_come d budget i = (budget - i.state.ticks) * most_left (table_of d) + left (table_of d) i.node

-- the run of the table has come to a stage behind time zero's wave after c acts, within its budget, and has gone on from each boundary
-- before; its design is one of which each tick ends, and its acts can be counted
pub record IsRunning (o : Origin) (order : List ℕ) (c : ℕ) (i : Stage) : Type 0 where
  pub tame : IsTame o order
  pub unrolled : IsUnrolled o.flat
  pub checked : IsChecked o.flat
  pub ordered : IsOrder o.flat order
  pub start : StartsFine o.flat.rows o.resume
  pub few : length (table_of o.flat).nodes ≤ 2 ^ 31
  pub budget : o.plan.budget ≤ 1000000000
  pub comes : Comes o (table_of o.flat) (nets_of o.flat o.files order) c i
  pub late : i.node < early_from o.flat
  pub since : first_tick o.resume ≤ i.state.ticks
  pub within : i.state.ticks ≤ o.plan.budget
  pub went_on : (k : ℕ) → first_tick o.resume ≤ k → k < i.state.ticks → ends_at o.plan k ≡ false
