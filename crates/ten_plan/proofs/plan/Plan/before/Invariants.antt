use Rattle.std.proofs.Common.{◌≡◌, ◌<◌, map, take}
use Rattle.std.specs.List.{AllByRecursion}
use Rattle.ten_plan.specs.Plans.{errand_of}
use Rattle.ten_plan.proofs.plan.Plan.before.Given as goal

abbrev pub invariant-loop-errand : goal.invariant-loop-errand
invariant-loop-errand l = record {
  counted : l.number ≡ l.errand-index;
  earlier : AllByRecursion (λ e. e.tick < l.tick) (take l.errand-index (map errand_of l.self.errands));
}
