use Rattle.std.proofs.Common.{take}
use Rattle.std.specs.List.{list_any}
use Rattle.elab_plain.specs.vl_flat.specs.Kinds.{setting_uses}
use Rattle.elab_plain.specs.SeenItems.{seen_setting}
use Rattle.elab_kinds.specs.Names.{has, Adds}
use Rattle.elab_kinds.proofs.items.add_settings.Given as goal

abbrev pub invariant-loop-a : goal.invariant-loop-a
invariant-loop-a l = Adds l.initial.names l.names (has l.hidden) (λ t. list_any (λ a. setting_uses t (seen_setting a)) (take l.a-index l.settings))
