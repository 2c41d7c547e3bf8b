use Rattle.std.proofs.Common.{map}
use Rattle.vl_design.specs.Trees.{row_of}
use Rattle.machine_rows.proofs.Placing.{Placing}
use Rattle.machine_rows.proofs.cells.bench.places.Given as goal

abbrev pub invariant-loop-signal : goal.invariant-loop-signal
invariant-loop-signal l = Placing (map row_of l.signals) l.places.items l.signal-index l.bank
