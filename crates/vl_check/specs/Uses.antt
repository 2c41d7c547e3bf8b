-- Refused constructs 14 to 18 and 20 to 23, and limit 10 (own).
use Rattle.std.specs.Prelude.{◌⊎◌}
use Rattle.vl_design.specs.declared.stop.Stop.{Stop}
use Rattle.vl_design.specs.Placed.{Design}
use Rattle.vl_design.specs.First.{In}
use Rattle.vl_check.specs.Standing.{standing_faults}
use Rattle.vl_bits.specs.Drivers.{IsDrivenTwice}
use Rattle.vl_check.specs.Recursion.{IsRecursion}
use Rattle.vl_check.specs.Saves.{saves_faults}

-- what stands where it may not, or writes a variable too; a net that is driven twice; recursion; too many names of snapshots
abbrev pub IsUseFault : Design → Stop → Type 0
IsUseFault d f = In f (standing_faults d) ⊎ IsDrivenTwice d f ⊎ IsRecursion d f ⊎ In f (saves_faults d)
