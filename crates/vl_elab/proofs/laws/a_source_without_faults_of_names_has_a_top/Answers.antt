use Rattle.vl_names.specs.NameFaults.{of_modules}
use Rattle.vl_elab.proofs.Tops.{top-there}
use Rattle.vl_elab.proofs.laws.a_source_without_faults_of_names_has_a_top.Goals as goal

pub returns : goal.returns
returns c = λ s m after is none. top-there s (λ f h. none f (of_modules f h)) m after is
