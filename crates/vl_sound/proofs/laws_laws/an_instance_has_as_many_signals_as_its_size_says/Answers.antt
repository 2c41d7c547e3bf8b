use Rattle.vl_flat.specs.Declarations.{modules}
use Rattle.vl_sound.proofs.DeclaredOfLaws.{all-apart}
use Rattle.vl_sound.proofs.Numbers.{instance-adds}
use Rattle.vl_sound.proofs.laws_laws.an_instance_has_as_many_signals_as_its_size_says.Goals as goal

pub returns : goal.returns
returns c = λ s none n. instance-adds n (modules s) (all-apart s none)
