use Rattle.ten_build.proofs.Going.{goes-on}
use Rattle.ten_build.proofs.laws.a_sources_run_goes_on_from_its_snapshots.Goals as goal

pub returns : goal.returns
returns c = λ text image o k q is e fine at f.
    goes-on text image o k q is e fine at f c.a_resumed_run_goes_on.ensures c.the_same_run_goes_on.ensures
