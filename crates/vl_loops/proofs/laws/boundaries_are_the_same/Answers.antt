use Rattle.vl_loops.proofs.Waking.{boundary_put, boundary_back}
use Rattle.vl_loops.proofs.laws.boundaries_are_the_same.Goals as goal

pub returns-clause-there : goal.returns-clause-there
returns-clause-there c = λ o k q can b. boundary_put o can k q b

pub returns-clause-back : goal.returns-clause-back
returns-clause-back c = λ o k s can b. boundary_back o can k s b
