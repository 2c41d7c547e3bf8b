use Rattle.std.proofs.Common.{◌≡◌, map, take}
use Rattle.elab_plain.specs.SeenItems.{seen_module}
use Rattle.elab_kinds.specs.Sized.{counts_of, next_counts}
use Rattle.elab_kinds.proofs.sizes.next_round.Given as goal

abbrev pub invariant-loop-i : goal.invariant-loop-i
invariant-loop-i l = map counts_of l.all.items ≡ next_counts l.index (map seen_module (take l.i l.modules)) l.round
