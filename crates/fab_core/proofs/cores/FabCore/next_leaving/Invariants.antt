use Rattle.std.proofs.Common.{◌≡◌, drop}
use Rattle.fab_model.specs.Fabrics.{Fabric}
use Rattle.fab_model.specs.Fabrics.{first_leaving}
use Rattle.fab_core.specs.Standing.{IsFabric}
use Rattle.fab_core.proofs.cores.FabCore.next_leaving.Given as goal

abbrev pub invariant-loop-resident : goal.invariant-loop-resident
invariant-loop-resident l = (f : Fabric) → IsFabric l.self f → first_leaving f.residents ≡ first_leaving (drop l.resident-index f.residents)
