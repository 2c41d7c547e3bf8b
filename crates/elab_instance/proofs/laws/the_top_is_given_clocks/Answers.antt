use Rattle.std.proofs.Common.{refl}
use Rattle.elab_instance.proofs.laws.the_top_is_given_clocks.Goals as goal

pub returns : goal.returns
returns c = λ m. refl
