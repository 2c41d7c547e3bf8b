use Rattle.std.proofs.Common.{◌≡◌, drop}
use Rattle.elab_plain.specs.vl_flat.specs.Processes as p
use Rattle.vl_elab.proofs.processes.edge_kind.Given as goal

abbrev pub invariant-loop-e : goal.invariant-loop-e
invariant-loop-e l = p.edge_kind (drop l.e-index l.es) ≡ p.edge_kind l.es
