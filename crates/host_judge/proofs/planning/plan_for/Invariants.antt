use Rattle.std.proofs.Common.{◌≡◌, filter, take}
use Rattle.host_files.specs.host_form.specs.Origins.{is_planned}
use Rattle.host_judge.specs.Deciding.{sums_of}
use Rattle.host_judge.proofs.planning.plan_for.Given as goal

abbrev pub invariant-loop-errand : goal.invariant-loop-errand
invariant-loop-errand l = l.errands.items ≡ filter (λ e. is_planned l.fabrics (sums_of l.cost) e.due) (take l.errand-index l.errand-items)
