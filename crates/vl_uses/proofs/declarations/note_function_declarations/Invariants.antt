use Rattle.std.proofs.Common.{◌≡◌, take}
use Rattle.std.specs.List.{flat_map}
use Rattle.vl_scope.specs.Faults.{earliest}
use Rattle.vl_uses.specs.Nodes as n
use Rattle.vl_uses.specs.Walks as w
use Rattle.vl_uses.proofs.declarations.note_function_declarations.Given as goal

abbrev pub invariant-loop-declaration : goal.invariant-loop-declaration
invariant-loop-declaration l = l.best ≡ earliest l.initial.best (w.faults (w.means l.names) (flat_map (n.function_declaration_nodes l.setting) (take l.declaration-index l.declarations)))
