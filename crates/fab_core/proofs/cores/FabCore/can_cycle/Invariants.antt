use Rattle.std.proofs.Common.{◌≡◌, drop}
use Rattle.fab_model.specs.Fabrics.{Fabric}
use Rattle.fab_model.specs.Fabrics.{steppers}
use Rattle.fab_core.specs.Standing.{IsFabric}
use Rattle.fab_core.proofs.cores.FabCore.can_cycle.Given as goal

abbrev pub invariant-loop-resident : goal.invariant-loop-resident
invariant-loop-resident l = (f : Fabric) → IsFabric l.self f → steppers f.holding f.residents ≡ steppers f.holding (drop l.resident-index f.residents)
