use Rattle.std.proofs.Common.{◌≡◌, map, take}
use Rattle.elab_plain.specs.SeenItems.{seen_module}
use Rattle.elab_kinds.specs.Sized.{own_signals}
use Rattle.elab_kinds.proofs.own.own_counts.Given as goal

abbrev pub invariant-loop-m : goal.invariant-loop-m
invariant-loop-m l = l.all.items ≡ map own_signals (map seen_module (take l.m-index l.modules))
