use Rattle.std.proofs.Common.{rules, ap, ◌∙◌}
use Rattle.fab_lock.proofs.Seats.{joins, settles}
use Rattle.fab_lock.proofs.table.LockTable.join.Goals as goal

pub join_seat-requires : goal.join_seat-requires
join_seat-requires g c = (search rules, search rules, search rules, search rules, joins _ _ _ _ _ _ _ _ _ c.requires.view.0 c.requires.view.1 c.requires.free.1)

pub load-requires : goal.load-requires
load-requires g c = (search rules, search rules, settles _ _ _ _ _ _ _ _ (ap (λ m. m.0.label) c.join_seat.ensures.2 ∙ c.requires.view.0))
