use Rattle.std.proofs.Common.{◌≡◌, map, take}
use Rattle.elab_plain.specs.SeenItems.{setting, seen_setting}
use Rattle.elab_items.proofs.parameters.bind_settings.Given as goal

abbrev pub invariant-loop-a : goal.invariant-loop-a
invariant-loop-a l = map seen_setting l.all.items ≡ map setting (take l.a-index l.assignments)
