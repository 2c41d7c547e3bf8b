use Rattle.ten_plan.proofs.Ordered.{before-is-done, before-saves}
use Rattle.ten_plan.proofs.laws.errands_before_a_tick_are_done_at_it.Goals as goal

pub returns-clause-done : goal.returns-clause-done
returns-clause-done c = before-is-done

pub returns-clause-saves : goal.returns-clause-saves
returns-clause-saves c = before-saves
