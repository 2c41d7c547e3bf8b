use Rattle.host_text.proofs.Numbers.{value_at-insert}
use Rattle.host_text.proofs.adding.put_number.Goals as goal

pub returns : goal.returns
returns c = λ t. value_at-insert c.args.numbers.now c.insert.new.self c.args.name.now c.args.number c.in_ok-insert.ensures.updates t
