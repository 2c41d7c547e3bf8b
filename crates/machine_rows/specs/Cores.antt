-- Cores that stand for some fabric.
use Rattle.fab_model.specs.Fabrics.{Fabric}
use Rattle.fab_core.specs.declared.cores.FabCore.{FabCore}
use Rattle.fab_core.specs.Standing.{IsFabric}

pub record IsCore (x : FabCore) : Type 0 where
  pub fabric : Fabric
  pub stands : IsFabric x fabric
