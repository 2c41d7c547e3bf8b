use Rattle.fab_rounds.proofs.Closes.{shut}
use Rattle.fab_rounds.proofs.closing.close_one.Goals as goal

pub returns-clause-shut : goal.returns-clause-shut
returns-clause-shut g c = shut c.args.desk.label c.args.first c.args.other c.join_seat.new.seat.view c.close.result c.join_seat.ensures.view c.requires.first.1 c.requires.apart c.close.ensures.found c.requires.any_puts c.close.ensures.label c.join_seat.ensures.begins
