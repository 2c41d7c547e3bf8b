use Rattle.std.proofs.Common.{◌≡◌, ◌++◌, take}
use Rattle.cell_waves.specs.Keeping.{each_written}
use Rattle.cell_waves.specs.Applying.{apply_writes}
use Rattle.cell_waves.proofs.apply.apply.Given as goal

abbrev pub invariant-loop-number : goal.invariant-loop-number
invariant-loop-number l = l.sets.items ≡ l.fn.sets.items ++ each_written (apply_writes l.here) (take l.number l.stores) (take l.number l.sites)
