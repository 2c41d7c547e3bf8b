use Rattle.vl_runs.proofs.Settle.{equation}
use Rattle.vl_runs.proofs.Steady.{Laws}
use Rattle.vl_runs.proofs.Checks.{accepted}
use Rattle.vl_runs.proofs.Instance.{lawful}
use Rattle.vl_runs.proofs.settle_laws.a_driven_bit_is_its_equation.Goals as goal

pub returns : goal.returns
returns c = λ d files s i w k f fs fw solved same b h.
    let laws : Laws d files s = lawful d files (accepted d k) s f in
    equation laws i s.values w fs fw solved same b h
