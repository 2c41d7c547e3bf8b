use Rattle.std.proofs.Common.{◌≡◌, map, take}
use Rattle.vl_design.specs.Trees.{row_of}
use Rattle.ten_core.specs.Ports.{ports_from}
use Rattle.ten_core.proofs.ports.ports.Given as goal

abbrev pub invariant-loop-number : goal.invariant-loop-number
invariant-loop-number l = l.ports.items ≡ ports_from 0 (map row_of (take l.number l.design.signals))
