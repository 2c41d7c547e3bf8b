use Rattle.std.proofs.Common.{◌≡◌, drop}
use Rattle.vl_design.specs.Seen.{stms_of}
use Rattle.vl_design.specs.Stops.{earliest}
use Rattle.vl_sites.specs.Lists.{items_of}
use Rattle.vl_check.specs.Headers.{loops_faults, items_faults}
use Rattle.vl_check.specs.Seen.{setting_of}
use Rattle.vl_check.proofs.loops.+loops.Given as goal

abbrev pub invariant-loops_fault-loop-a : goal.invariant-loops_fault-loop-a
invariant-loops_fault-loop-a l = earliest l.all (loops_faults (setting_of l.s) l.around (stms_of (drop l.a-index l.list))) ≡ earliest l.initial.all (loops_faults (setting_of l.s) l.around (stms_of l.list))

abbrev pub invariant-cases_fault-loop-item : goal.invariant-cases_fault-loop-item
invariant-cases_fault-loop-item l = earliest l.all (items_faults (setting_of l.s) l.around (items_of (drop l.item-index l.items))) ≡ earliest l.initial.all (items_faults (setting_of l.s) l.around (items_of l.items))
