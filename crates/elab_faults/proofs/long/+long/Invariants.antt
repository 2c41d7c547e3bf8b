use Rattle.std.proofs.Common.{◌≡◌, map, take}
use Rattle.elab_plain.specs.vl_flat.specs.Surface as x
use Rattle.elab_plain.specs.vl_flat.specs.ExpressionFaults.{some_hold_long, selects_hold_long, args_hold_long}
use Rattle.elab_plain.specs.Seen.{seen, selects_before, args_before}
use Rattle.elab_plain.specs.Listed.{of_list}
use Rattle.elab_faults.proofs.long.+long.Given as goal

abbrev pub invariant-some_hold_long-loop-e : goal.invariant-some_hold_long-loop-e
invariant-some_hold_long-loop-e l = l.all ≡ some_hold_long (of_list (map seen (take l.e-index l.es)))

abbrev pub invariant-selects_hold_long-loop-one : goal.invariant-selects_hold_long-loop-one
invariant-selects_hold_long-loop-one l = l.all ≡ selects_hold_long (selects_before (take l.one-index l.selects) x.NoSelects)

abbrev pub invariant-args_hold_long-loop-a : goal.invariant-args_hold_long-loop-a
invariant-args_hold_long-loop-a l = l.all ≡ args_hold_long (args_before (take l.a-index l.given) x.NoArgs)
