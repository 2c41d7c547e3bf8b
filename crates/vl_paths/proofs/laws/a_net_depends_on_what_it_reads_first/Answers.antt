use Rattle.std.specs.Prelude.{◌||◌}
use Rattle.vl_paths.specs.Paths.{always}
use Rattle.vl_paths.proofs.Doing.{exec_twins}
use Rattle.vl_paths.proofs.laws.a_net_depends_on_what_it_reads_first.Goals as goal

pub returns : goal.returns
returns c = λ is_memory scope a p s t n h d. exec_twins is_memory scope a n p (λ b. p b || always scope.names b a) s t h (λ b g. g) d
