use Rattle.std.proofs.Common.{rules}
use Rattle.fab_lock.proofs.Words.{posts}
use Rattle.fab_lock.proofs.table.LockTable.post.Goals as goal

pub store-requires : goal.store-requires
store-requires g c = (search rules, search rules, posts _ _ _ _ _ _ _ _ c.args.word c.args.value c.requires.view.0 c.requires.holds c.requires.word.0 c.requires.word.1)
