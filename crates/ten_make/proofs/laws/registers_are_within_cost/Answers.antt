use Rattle.ten_make.proofs.Bits.{registers-within}
use Rattle.ten_make.proofs.laws.registers_are_within_cost.Goals as goal

pub returns : goal.returns
returns c = λ d variables. registers-within d variables
