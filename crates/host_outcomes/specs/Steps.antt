-- How the free orders of a script are gone through (own).
use Rattle.std.specs.Prelude.{◌≡◌, ℕ, ◌≤◌, Bool, true, if◌then◌else◌, List, ◌++◌, drop, length, map, slice_index_or, Option, Some, None}
use Rattle.ten_files.specs.vl_design.specs.Cost.{Cost}
use Rattle.host_judge.specs.host_text.specs.declared.script.FabricLine.{FabricLine}
use Rattle.host_judge.specs.host_text.specs.declared.script.Free.{Free}
use Rattle.host_judge.specs.host_text.specs.declared.script.Script.{Script}
use Rattle.host_judge.specs.host_text.specs.Laws.{IsFree}
use Rattle.host_judge.specs.host_text.specs.declared.block.FreeLine.{FreeLine}
use Rattle.host_judge.specs.host_text.specs.declared.block.Reply.{Reply}
use Rattle.host_judge.specs.host_text.specs.declared.block.Reply.TheVariants as reply_is
use Rattle.fab_orders.specs.declared.outcomes.Answer.{Answer}
use Rattle.host_judge.specs.host_form.specs.Orders.{free_line, tenant_of}
use Rattle.host_outcomes.specs.Given.{answered, given, has_place, no_cost, rank}

-- a free order of some tenant, at one of so many fabrics
abbrev pub IsFreeWithin : ℕ → Free → Type 0
IsFreeWithin fabrics order = (tenants : ℕ) × IsFree fabrics tenants order

-- what the tenant of a number costs, unless it is refused
abbrev pub cost_in : List Bool → List Cost → ℕ → Option Cost
cost_in refused costs n = if slice_index_or refused n true then None else Some (slice_index_or costs (rank refused n) no_cost)

-- the reply to an order that isn't given, where its tenant costs this, or is refused
abbrev pub at_once : List FabricLine → Option Cost → Free → Option Reply
at_once fabrics None order = Some reply_is.Refused
at_once fabrics (Some c) order = if has_place fabrics c order then None else Some reply_is.Small

-- the same, where tenants cost this
abbrev pub said_at_once : List FabricLine → List Bool → List Cost → Free → Option Reply
said_at_once fabrics refused costs order = at_once fabrics (cost_in refused costs (tenant_of order)) order

-- these lines were made, for which so many answers were taken, and these orders are left
pub record AreMade (s : Script) (refused : List Bool) (costs : List Cost) (answers : List Answer) (lines : List FreeLine) (next : ℕ) (rest : List Free) : Type 0 where
  pub within : next ≤ length answers
  pub given_rest : map (λ a. a.order.value) (drop next answers) ≡ given s.fabrics refused costs rest
  pub whole : lines ++ map (free_line s) (answered s.fabrics refused costs rest (drop next answers)) ≡ map (free_line s) (answered s.fabrics refused costs s.free answers)
