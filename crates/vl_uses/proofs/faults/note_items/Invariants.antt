use Rattle.std.proofs.Common.{◌≡◌, ◌+◌, List, [], take, drop}
use Rattle.std.specs.List.{flat_map}
use Rattle.vl_scope.specs.Declarations.{Declared}
use Rattle.vl_scope.specs.Faults.{earliest}
use Rattle.vl_uses.specs.Nodes as n
use Rattle.vl_uses.specs.UseFaults.{site_faults}
use Rattle.vl_uses.specs.Walks.{Knows}
use Rattle.vl_uses.proofs.faults.note_items.Given as goal

-- so many parameters are passed, and with the rest the faults are the whole's
abbrev pub invariant-loop-item : goal.invariant-loop-item
invariant-loop-item l = record {
  known : l.parameters ≡ l.initial.parameters + n.items_parameters (take l.item-index l.items);
  rest : (as' : List Declared) → Knows l.outer as' → Knows l.none [] → earliest l.best (flat_map (site_faults as') (n.items_sites l.parameters (drop l.item-index l.items))) ≡ earliest l.initial.best (flat_map (site_faults as') (n.items_sites l.initial.parameters l.items));
}
