-- Points: where tenants are in their runs (own).
use Rattle.std.specs.Prelude.{ℕ, suc, ◌-◌, Bool, true, false, not, ◌&&◌, ◌||◌, List, [], ◌∷◌, ◌++◌, if◌then◌else◌, Option, None, slice_get}
use Rattle.ten_core.specs.vl_design.specs.declared.capacity.Cost.{Cost}
use Rattle.ten_core.specs.vl_design.specs.Costs.{saturated_cost}
use Rattle.ten_core.specs.vl_design.specs.declared.design.End.{End}
use Rattle.ten_core.specs.vl_design.specs.Alone as alone
use Rattle.ten_core.specs.vl_design.specs.Alone.{FreeSave}
use Rattle.ten_core.specs.vl_design.specs.Cost.{cost}
use Rattle.ten_core.specs.sub_nodes.specs.Code.{table_of}
use Rattle.ten_core.specs.sub_nodes.specs.Cycles.{Stage, rises}
use Rattle.ten_core.specs.sub_nodes.specs.Stands.{at_trap}
use Rattle.ten_core.specs.declared.origin.Origin.{Origin}
use Rattle.ten_core.specs.Runs.{after_cycle, after_call}
use Rattle.ten_core.specs.Tenants.{origin_of}
use Rattle.ten_parcel.specs.ten_shell.specs.declared.shell.Why.{Why}
use Rattle.ten_parcel.specs.ten_shell.specs.declared.shell.Why.TheVariants.{Ended, Move}
use Rattle.ten_parcel.specs.ten_shell.specs.Leaving.{end_in, why_in}
use Rattle.ten_parcel.specs.ten_shell.specs.Shells.{is_at_boundary, is_left, left_at}

pub record Point : Type 0 where
  -- its number, by which a script's orders name it
  pub number : ℕ
  -- what its run starts from
  pub origin : Origin
  -- the acts done, and where its run is behind them
  pub acts : ℕ
  pub stage : Stage
  -- the names of the snapshots that are still to be made at this boundary
  pub left : List (List ℕ)
  -- the snapshots made besides, whether the move of this boundary is done, and whether it was stopped besides
  pub free : List FreeSave
  pub moved : Bool
  pub stopped : Bool

-- the run alone that its run is, and the order in which nets settle in it
abbrev pub run_in : Point → alone.Origin
run_in p = origin_of p.origin

abbrev pub order_in : Point → List ℕ
order_in p = p.origin.image.order.items

-- what it takes of a fabric, in numbers of 64 bits
abbrev pub cost_of : Point → Cost
cost_of p = saturated_cost (cost (run_in p).flat)

-- ---- where it stands

-- at a boundary
abbrev pub is_there : Point → Bool
is_there p = is_at_boundary (run_in p).flat p.stage

-- it waits: a call is to be served, or a snapshot to be made
abbrev pub waits : Point → Bool
waits p = at_trap (table_of (run_in p).flat) p.stage || (is_there p && is_left p.left)

-- it rests: at a boundary where no snapshot is left to be made, or after `$finish`
abbrev pub rests : Point → Bool
rests p = p.stage.state.finished || (rises (slice_get (table_of (run_in p).flat).nodes p.stage.node) && not (is_left p.left))

-- why its run has ended where it rests, if it has
abbrev pub ended : Point → Option End
ended p = end_in (run_in p).plan p.stopped p.stage.state

-- why it is to leave
abbrev pub due : Point → Option Why
due p = if rests p then why_in (run_in p).plan p.stopped p.moved p.stage.state else None

-- the tick of its last boundary, or the ticks begun once finished
abbrev pub tick_of : Point → ℕ
tick_of p = if p.stage.state.finished || is_there p then p.stage.state.ticks else p.stage.state.ticks - 1

-- ---- steps

-- what is left to be made where it comes to a stage
abbrev pub left_in : alone.Origin → Stage → List (List ℕ)
left_in o i = if is_at_boundary o.flat i then left_at o i else []

-- behind a cycle: the next act is done, unless that is a call, which then waits
abbrev pub cycled : Point → Point
cycled p =
    let i = after_cycle (run_in p) (order_in p) p.stage in
    record p { acts = if at_trap (table_of (run_in p).flat) i then p.acts else suc p.acts; stage = i; left = left_in (run_in p) i; moved = false }

-- the call that waits is served, which is the next act
abbrev pub called : Point → Point
called p =
    let i = after_call (run_in p) p.stage in
    record p { acts = suc p.acts; stage = i; left = left_in (run_in p) i }

abbrev pub but_first : List (List ℕ) → List (List ℕ)
but_first [] = []
but_first (name ∷ names) = names

-- the next snapshot is made
abbrev pub saved : Point → Point
saved p = record p { left = but_first p.left }

-- what it waits for is done
abbrev pub served : Point → Point
served p = if at_trap (table_of (run_in p).flat) p.stage then called p else saved p

-- it leaves for this reason: where it moves, the move of this boundary is done
abbrev pub departed : Why → Point → Point
departed (Move fabric) p = record p { moved = true }
departed (Ended end) p = p

-- ---- steps between fabrics

-- a snapshot is made besides, under a name
abbrev pub kept : List ℕ → Point → Point
kept name p = record p { free = p.free ++ record { name = name; tick = tick_of p } ∷ [] }

-- it is stopped besides
abbrev pub stopped : Point → Point
stopped p = record p { stopped = true }
