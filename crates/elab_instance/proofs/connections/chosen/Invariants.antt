use Rattle.std.proofs.Common.{◌≡◌, take}
use Rattle.std.specs.Prelude.{fold}
use Rattle.elab_instance.specs.Tables as spec
use Rattle.elab_instance.proofs.connections.chosen.Given as goal

abbrev pub invariant-loop-name : goal.invariant-loop-name
invariant-loop-name l = spec.joined l.table ≡ fold (spec.take_over (spec.joined l.given)) spec.none (spec.nows (take l.name-index l.names))
