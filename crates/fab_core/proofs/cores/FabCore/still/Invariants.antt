use Rattle.std.proofs.Common.{◌≡◌, drop}
use Rattle.fab_model.specs.Fabrics.{Fabric}
use Rattle.fab_core.proofs.Looks.{all_rest}
use Rattle.fab_core.specs.Standing.{IsFabric}
use Rattle.fab_core.proofs.cores.FabCore.still.Given as goal

abbrev pub invariant-loop-resident : goal.invariant-loop-resident
invariant-loop-resident l = (f : Fabric) → IsFabric l.self f → all_rest f.residents ≡ all_rest (drop l.resident-index f.residents)
