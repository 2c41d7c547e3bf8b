use Rattle.vl_bits.proofs.Masking.{has_or}
use Rattle.vl_bits.proofs.parts.either.Goals as goal

pub returns : goal.returns
returns c i = has_or c.args.bits c.args.mask i
