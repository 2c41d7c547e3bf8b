use Rattle.std.proofs.Common.{take}
use Rattle.std.specs.List.{list_any}
use Rattle.elab_kinds.specs.Names.{has, Adds}
use Rattle.elab_kinds.specs.Parts.{ex_uses, select_uses, argument_uses}
use Rattle.elab_kinds.proofs.uses.+uses.Given as goal

abbrev pub invariant-add_all_uses-loop-e : goal.invariant-add_all_uses-loop-e
invariant-add_all_uses-loop-e l = Adds l.initial.names l.names (has l.hidden) (λ t. list_any (ex_uses t) (take l.e-index l.es))

abbrev pub invariant-add_selects-loop-one : goal.invariant-add_selects-loop-one
invariant-add_selects-loop-one l = Adds l.initial.names l.names (has l.hidden) (λ t. list_any (select_uses t) (take l.one-index l.selects))

abbrev pub invariant-add_argument_uses-loop-one : goal.invariant-add_argument_uses-loop-one
invariant-add_argument_uses-loop-one l = Adds l.initial.names l.names (has l.hidden) (λ t. list_any (argument_uses t) (take l.one-index l.given))
