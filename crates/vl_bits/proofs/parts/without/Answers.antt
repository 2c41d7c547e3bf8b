use Rattle.vl_bits.proofs.Masking.{has_without}
use Rattle.vl_bits.proofs.parts.without.Goals as goal

pub returns : goal.returns
returns c i = has_without c.args.bits c.args.mask i c.ranges.bits c.ranges.mask
