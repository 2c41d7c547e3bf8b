use Rattle.std.proofs.Common.{◌≡◌, map, take}
use Rattle.elab_plain.specs.SeenItems.{seen_module}
use Rattle.elab_kinds.specs.Facts.{facts, facts_of}
use Rattle.vl_elab.proofs.library.all_roles.Given as goal

abbrev pub invariant-loop-definition : goal.invariant-loop-definition
invariant-loop-definition l = map facts_of l.all.items ≡ map (λ m. facts (seen_module m)) (take l.definition-index l.modules)
