-- Why tenants are to leave where they rest (own).
use Rattle.std.specs.Prelude.{ℕ, Bool, true, false, [], if◌then◌else◌, Option, Some, None}
use Rattle.vl_design.specs.declared.design.End.{End}
use Rattle.vl_design.specs.declared.design.End.TheVariants.{Stopped}
use Rattle.vl_design.specs.Alone.{Plan, reason_at}
use Rattle.vl_design.specs.Queue.{Queue, Updated}
use Rattle.vl_design.specs.State.{State}
use Rattle.ten_plan.specs.Plans.{move_at}
use Rattle.ten_shell.specs.declared.shell.Why.{Why}
use Rattle.ten_shell.specs.declared.shell.Why.TheVariants.{Ended, Move}

-- a run at rest
abbrev pub resting : State → Queue
resting s = record { state = s; phase = Updated; ahead = []; pending = [] }

-- why a run has ended where it rests in a state, and whether it was stopped besides
abbrev pub end_in : Plan → Bool → State → Option End
end_in plan stopped s = if stopped then Some Stopped else reason_at plan s.ticks (resting s)

-- its run has ended, or else a move stands there that isn't done
abbrev pub why_of : Option End → Option ℕ → (moved : Bool) → Option Why
why_of (Some end) to moved = Some (Ended end)
why_of None (Some fabric) false = Some (Move fabric)
why_of None (Some fabric) true = None
why_of None None moved = None

-- why a tenant of this plan is to leave where it rests in a state
abbrev pub why_in : Plan → (stopped moved : Bool) → State → Option Why
why_in plan stopped moved s = why_of (end_in plan stopped s) (move_at s.ticks plan.errands) moved
