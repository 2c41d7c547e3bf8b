use Rattle.vl_bits.proofs.Masking.{has_and}
use Rattle.vl_bits.proofs.parts.common.Goals as goal

pub returns : goal.returns
returns c i = has_and c.args.bits c.args.mask i
