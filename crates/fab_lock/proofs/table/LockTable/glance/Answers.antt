use Rattle.std.proofs.Common.{rules}
use Rattle.fab_lock.proofs.Words.{glances}
use Rattle.fab_lock.proofs.table.LockTable.glance.Goals as goal

pub load-requires : goal.load-requires
load-requires g c = (search rules, search rules, glances _ _ _ _ _ _ _ _ c.args.word c.requires.view.0 c.requires.word)
