use Rattle.std.proofs.Common.{◌≡◌, drop}
use Rattle.vl_design.specs.Seen.{stms_of}
use Rattle.cell_emit.specs.vl_sites.specs.Lists.{items_of}
use Rattle.cell_states.specs.Marks.{stms_signals, items_signals, marked}
use Rattle.cell_states.proofs.delays.+statements.Given as goal

abbrev pub invariant-statements-loop-a : goal.invariant-statements-loop-a
invariant-statements-loop-a l = marked l.marks.items (stms_signals (stms_of (drop l.a-index l.list))) ≡ marked l.initial.marks.items (stms_signals (stms_of l.list))

abbrev pub invariant-cases-loop-item : goal.invariant-cases-loop-item
invariant-cases-loop-item l = marked l.marks.items (items_signals (items_of (drop l.item-index l.items))) ≡ marked l.initial.marks.items (items_signals (items_of l.items))
