use Rattle.vl_design.proofs.Lengthening.{longer_keeps}
use Rattle.vl_design.proofs.laws.a_longer_width_keeps_the_number.Goals as goal

pub returns : goal.returns
returns c = λ signed w longer v h b. longer_keeps signed w longer v h b
