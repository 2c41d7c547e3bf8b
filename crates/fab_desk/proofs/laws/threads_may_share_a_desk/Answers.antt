use Rattle.fab_desk.proofs.Crosses.{crosses}
use Rattle.fab_desk.proofs.laws.threads_may_share_a_desk.Goals as goal

pub may_be_shared-requires-sync-X : goal.may_be_shared-requires-sync-X
may_be_shared-requires-sync-X c κs = search crosses depth 40
