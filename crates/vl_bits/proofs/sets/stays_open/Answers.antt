use Rattle.vl_bits.proofs.Casing.{stays-is}
use Rattle.vl_bits.proofs.sets.stays_open.Goals as goal

pub returns-then-is_open : goal.returns-then-is_open
returns-then-is_open c = stays-is c.args.is_open c.is_empty.result c.args.labels.now c.if-is_open.true c.is_empty.ensures
