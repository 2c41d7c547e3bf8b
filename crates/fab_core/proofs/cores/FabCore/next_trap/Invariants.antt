use Rattle.std.proofs.Common.{◌≡◌, drop}
use Rattle.fab_model.specs.Fabrics.{Fabric}
use Rattle.fab_model.specs.Fabrics.{first_waiting}
use Rattle.fab_core.specs.Standing.{IsFabric}
use Rattle.fab_core.proofs.cores.FabCore.next_trap.Given as goal

abbrev pub invariant-loop-resident : goal.invariant-loop-resident
invariant-loop-resident l = (f : Fabric) → IsFabric l.self f → first_waiting f.residents ≡ first_waiting (drop l.resident-index f.residents)
