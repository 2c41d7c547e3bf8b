use Rattle.std.proofs.Common.{◌≡◌, map, take}
use Rattle.vl_design.specs.Trees.{row_of}
use Rattle.ten_plan.specs.Written.{rows_of}
use Rattle.ten_core.proofs.ports.snapshot_rows.Given as goal

abbrev pub invariant-loop-signal : goal.invariant-loop-signal
invariant-loop-signal l = l.rows.items ≡ rows_of (map row_of (take l.signal-index l.design.signals))
