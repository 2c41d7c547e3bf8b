use Rattle.std.proofs.Common.{◌≡◌, map, take}
use Rattle.std.specs.Prelude.{fold}
use Rattle.elab_plain.specs.SeenItems.{seen_declared, seen_type}
use Rattle.elab_kinds.specs.Facts.{facts_of}
use Rattle.elab_instance.specs.Known.{kinds_by, known, with_signal}
use Rattle.elab_instance.proofs.signals.add_signals.Given as goal

abbrev pub invariant-loop-one : goal.invariant-loop-one
invariant-loop-one l = known l.names l.next ≡ fold (with_signal (kinds_by (facts_of l.roles) l.above)) (known l.initial.names l.initial.next) (map (seen_declared (seen_type l.kind)) (take l.one-index l.declared))
