use Rattle.machine_rows.proofs.Outs.{taken_out}
use Rattle.machine_rows.proofs.fabrics.desks.take.Goals as goal

pub returns-clause-out : goal.returns-clause-out
returns-clause-out g c = taken_out c.points_tell_of_tenants.ensures.parcel c.args.desk.now.label c.args.tenant c.args.seat.now.view c.take.new.seat.view c.take.result c.take.ensures.taken
