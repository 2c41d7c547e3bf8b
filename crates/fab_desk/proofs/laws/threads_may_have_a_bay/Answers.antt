use Rattle.fab_desk.proofs.Crosses.{crosses}
use Rattle.fab_desk.proofs.laws.threads_may_have_a_bay.Goals as goal

pub may_be_given-requires-send-X : goal.may_be_given-requires-send-X
may_be_given-requires-send-X c κs = search crosses depth 40
