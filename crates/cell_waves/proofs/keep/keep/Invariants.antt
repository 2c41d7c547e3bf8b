use Rattle.std.proofs.Common.{◌≡◌, ◌++◌, take}
use Rattle.cell_waves.specs.Keeping.{keep_writes, each_written}
use Rattle.cell_waves.proofs.keep.keep.Given as goal

abbrev pub invariant-loop-number : goal.invariant-loop-number
invariant-loop-number l = l.sets.items ≡ l.fn.sets.items ++ each_written keep_writes (take l.number l.stores) (take l.number l.sites)
