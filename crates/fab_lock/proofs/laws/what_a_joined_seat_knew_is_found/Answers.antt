use Rattle.fab_lock.proofs.Joined.{own_found, joined_found, known_found}
use Rattle.fab_lock.proofs.laws.what_a_joined_seat_knew_is_found.Goals as goal

pub returns-clause-own : goal.returns-clause-own
returns-clause-own g c = own_found g.T.Kept.entry

pub returns-clause-joined : goal.returns-clause-joined
returns-clause-joined g c = joined_found g.T.Kept.entry

pub returns-clause-known : goal.returns-clause-known
returns-clause-known g c = known_found g.T.Kept.entry
