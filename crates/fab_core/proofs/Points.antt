-- What a shell that stands for a point tells of it.
use Rattle.std.proofs.Common.{◌≡◌, Bool, true, false, None, sym, ap, ◌∙◌}
use Rattle.std.specs.Prelude.{◌&&◌, ◌||◌, ◌-◌, not, nat_le, is_some, slice_get, if◌then◌else◌}
use Rattle.std.specs.Arc.{arc_value}
use Rattle.vl_design.specs.Costs.{saturated_cost}
use Rattle.vl_design.specs.Alone.{Origin, stop_at}
use Rattle.vl_design.specs.Cost.{cost}
use Rattle.ten_core.specs.cell_form.specs.Data.{BankData}
use Rattle.ten_core.specs.sub_nodes.specs.Code.{table_of}
use Rattle.ten_core.specs.sub_nodes.specs.Cycles.{rises}
use Rattle.ten_core.specs.sub_nodes.specs.Stands.{at_trap}
use Rattle.ten_core.specs.declared.origin.Origin.{Origin as From}
use Rattle.ten_core.specs.Memory.{serving_takes_memory}
use Rattle.ten_core.specs.Tenants.{origin_of}
use Rattle.ten_core.specs.ten_plan.specs.Plans.{move_at}
use Rattle.ten_core.specs.Running.{ends_at, goes_on}
use Rattle.ten_shell.specs.declared.shell.Shell.{Shell}
use Rattle.ten_shell.specs.Leaving.{end_in, why_in}
use Rattle.ten_shell.specs.Shells.{flat_in, is_at_boundary, is_left, left_in, rests_in, run_of, waits_in, MayCycle}
use Rattle.fab_model.specs.Points.{Point, cost_of, due, is_there, rests, tick_of, waits, run_in, order_in}
use Rattle.fab_model.specs.Fabrics.{can_step}
use Rattle.fab_core.specs.Memory.{takes_memory}
use Rattle.fab_core.specs.Standing.{IsPoint}
use Rattle.fab_core.proofs.Tests.{due-none, end-none, going, left-same, never-both, none-left, or-left-false, or-right-false, rest-same, step-due, step-waits, true-where, why-none, Goes}

-- its run is the point's, and so is the order in which nets settle
pub run-by : {s : Shell} {b : BankData} {p : Point} → IsPoint s b p → run_of s ≡ run_in p
run-by h = ap origin_of h.origin

pub order-by : {s : Shell} {b : BankData} {p : Point} → IsPoint s b p → (arc_value s.engine.origin).image.order.items ≡ order_in p
order-by h = ap (λ (x : From). x.image.order.items) h.origin

module _ (s : Shell) (b : BankData) (p : Point) (h : IsPoint s b p) where
  pub order-is : h.stands.order ≡ (order_in p)
  order-is = sym h.stands.at.image.ordered ∙ (order-by h)

  pub trap-is : s.engine.waits ≡ at_trap (table_of (run_in p).flat) p.stage
  trap-is = h.stands.at.waits ∙ ap (λ (o : Origin). at_trap (table_of o.flat) p.stage) (run-by h)

  -- what it waits for takes memory, where serving its call does if one waits
  pub memory-is : (s.engine.waits ≡ true → serving_takes_memory (flat_in s) p.stage ≡ true) → takes_memory p ≡ true
  memory-is k =
      true-where (at_trap (table_of (run_in p).flat) p.stage) (serving_takes_memory (run_in p).flat p.stage)
      (λ e. ap (λ (o : Origin). serving_takes_memory o.flat p.stage) (sym (run-by h)) ∙ k (trap-is ∙ e))

  pub waits-is : waits_in s p.stage ≡ waits p
  waits-is =
      ap (λ x. x || (is_at_boundary (flat_in s) p.stage && is_left (left_in s))) trap-is
      ∙ ap (λ x. at_trap (table_of (run_in p).flat) p.stage || x) (left-same (is_at_boundary (flat_in s) p.stage) (left_in s) p.left h.left)
      ∙ ap (λ (o : Origin). at_trap (table_of (run_in p).flat) p.stage || (is_at_boundary o.flat p.stage && is_left p.left)) (run-by h)

  pub rests-is : rests_in s p.stage ≡ rests p
  rests-is =
      rest-same p.stage.state.finished (rises (slice_get (table_of (flat_in s)).nodes p.stage.node)) (left_in s) p.left h.left
      ∙ ap (λ (o : Origin). p.stage.state.finished || (rises (slice_get (table_of o.flat).nodes p.stage.node) && not (is_left p.left))) (run-by h)

  pub due-is : (if rests_in s p.stage then why_in (run_of s).plan s.stopped s.moved p.stage.state else None) ≡ due p
  due-is =
      ap (λ x. if x then why_in (run_of s).plan s.stopped s.moved p.stage.state else None) rests-is
      ∙ ap (λ (o : Origin). if rests p then why_in o.plan s.stopped s.moved p.stage.state else None) (run-by h)
      ∙ ap (λ x. if rests p then why_in (run_in p).plan x s.moved p.stage.state else None) h.stopped
      ∙ ap (λ x. if rests p then why_in (run_in p).plan p.stopped x p.stage.state else None) h.moved

  pub tick-is : (if p.stage.state.finished || is_at_boundary (flat_in s) p.stage then p.stage.state.ticks else p.stage.state.ticks - 1) ≡ tick_of p
  tick-is = ap (λ (o : Origin). if p.stage.state.finished || is_at_boundary o.flat p.stage then p.stage.state.ticks else p.stage.state.ticks - 1) (run-by h)

  pub cost-is : (arc_value s.engine.origin).image.cost ≡ cost_of p
  cost-is = h.stands.at.image.costs ∙ ap (λ (o : Origin). saturated_cost (cost o.flat)) (run-by h)

  -- what its engine knows of where it stands
  waits-by : waits p ≡ (s.engine.waits || ((not s.engine.finished && rises (slice_get (table_of (flat_in s)).nodes s.engine.next)) && is_left (left_in s)))
  waits-by =
      sym waits-is
      ∙ ap (λ f. s.engine.waits || ((not f && rises (slice_get (table_of (flat_in s)).nodes p.stage.node)) && is_left (left_in s))) (sym h.stands.at.finished)
      ∙ ap (λ n. s.engine.waits || ((not s.engine.finished && rises (slice_get (table_of (flat_in s)).nodes n)) && is_left (left_in s))) (sym h.stands.at.next)

-- whether it waits is the shell's alone
pub waits-alike : (s : Shell) (b : BankData) (p q : Point) → IsPoint s b p → IsPoint s b q → waits p ≡ waits q
waits-alike s b p q h k = waits-by s b p h ∙ sym (waits-by s b q k)

-- ---- a point that may do a cycle

module _ (p : Point) where
  abbrev ends : Bool
  ends = ends_at (run_in p).plan p.stage.state.ticks

  -- where it rests and isn't due to leave, it goes on
  goes-there : is_some (due p) ≡ false → rests p ≡ true → Goes p.stopped p.stage.state.finished ends
  goes-there none there =
      end-none p.stopped p.stage.state.finished (nat_le (run_in p).plan.budget p.stage.state.ticks) (stop_at p.stage.state.ticks (run_in p).plan.errands)
      (why-none (end_in (run_in p).plan p.stopped p.stage.state) (move_at p.stage.state.ticks (run_in p).plan.errands) p.moved
      (due-none (rests p) (why_in (run_in p).plan p.stopped p.moved p.stage.state) none there))

  module _ (holding : Bool) (can : can_step holding p ≡ true) where
    pub no-wait : waits p ≡ false
    no-wait = step-waits (waits p) (is_some (due p)) (not (holding && rests p)) can

    pub not-due : is_some (due p) ≡ false
    not-due = step-due (waits p) (is_some (due p)) (not (holding && rests p)) can

    pub no-trap : at_trap (table_of (run_in p).flat) p.stage ≡ false
    no-trap = or-left-false (at_trap (table_of (run_in p).flat) p.stage) (is_there p && is_left p.left) no-wait

    pub none-there : (is_there p && is_left p.left) ≡ false
    none-there = or-right-false (at_trap (table_of (run_in p).flat) p.stage) (is_there p && is_left p.left) no-wait

    pub point-goes : goes_on (run_in p).plan (run_in p).flat p.stage ≡ true
    point-goes = going p.stopped p.stage.state.finished (rises (slice_get (table_of (run_in p).flat).nodes p.stage.node)) (is_left p.left) ends none-there (goes-there not-due)

    pub may-cycle : (s : Shell) (b : BankData) → IsPoint s b p → MayCycle s p.stage
    may-cycle s b h = record {
      no_call = trap-is s b p h ∙ no-trap;
      saved = λ e. h.left e ∙ none-left (is_there p) p.left none-there (ap (λ (o : Origin). is_at_boundary o.flat p.stage) (sym (run-by h)) ∙ e);
      goes_on = ap (λ (o : Origin). goes_on o.plan o.flat p.stage) (run-by h) ∙ point-goes;
    }
