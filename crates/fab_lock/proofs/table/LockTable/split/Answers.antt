use Rattle.std.proofs.Common.{rules}
use Rattle.fab_lock.proofs.Seats.{splits}
use Rattle.fab_lock.proofs.table.LockTable.split.Goals as goal

pub split_seat-requires : goal.split_seat-requires
split_seat-requires g c = (search rules, search rules, splits _ _ _ _ _ _ _ c.requires.view c.requires.room)
