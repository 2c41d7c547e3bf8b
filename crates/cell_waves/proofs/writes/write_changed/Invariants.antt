use Rattle.std.proofs.Common.{map}
use Rattle.ten_form.specs.vl_design.specs.Trees.{row_of}
use Rattle.cell_waves.specs.Copies.{changed, Sets}
use Rattle.cell_waves.proofs.Setting.{below}
use Rattle.cell_waves.proofs.writes.write_changed.Given as goal

abbrev pub invariant-loop-number : goal.invariant-loop-number
invariant-loop-number l = Sets (map row_of l.signals) l.copy (below l.number (changed l.before l.after)) l.after l.here l.fn.sets.items l.sets.items
