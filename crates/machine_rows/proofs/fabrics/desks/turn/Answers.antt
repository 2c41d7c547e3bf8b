use Rattle.machine_rows.proofs.Outs.{turned_out}
use Rattle.machine_rows.proofs.fabrics.desks.turn.Goals as goal

pub returns-clause-out : goal.returns-clause-out
returns-clause-out g c = turned_out c.points_tell_of_tenants.ensures.parcel c.args.desk.now.label c.args.most c.args.seat.now.view c.turn.new.seat.view c.turn.result c.turn.ensures.turned
