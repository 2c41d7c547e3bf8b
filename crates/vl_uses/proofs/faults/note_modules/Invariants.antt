use Rattle.std.proofs.Common.{◌≡◌, [], take}
use Rattle.std.specs.List.{flat_map}
use Rattle.vl_scope.specs.Faults.{earliest}
use Rattle.vl_uses.specs.UseFaults.{module_faults}
use Rattle.vl_uses.specs.Walks.{Knows}
use Rattle.vl_uses.proofs.faults.note_modules.Given as goal

abbrev pub invariant-loop-tree : goal.invariant-loop-tree
invariant-loop-tree l = Knows l.none [] → l.best ≡ earliest l.initial.best (flat_map module_faults (take l.tree-index l.modules))
