use Rattle.std.proofs.Common.{◌≡◌, ◌+◌, ◌*◌, map, take}
use Rattle.vl_design.specs.Sized.{sized_of}
use Rattle.vl_design.specs.Trees.{exp_of, exps_of}
use Rattle.vl_design.specs.Width.{input_widths}
use Rattle.vl_width.specs.Nodes.{nodes, all_nodes}
use Rattle.vl_width.specs.Read.{own_of, at_inputs}
use Rattle.vl_width.specs.Room.{names_of}
use Rattle.vl_width.proofs.own.+own.Given as goal

abbrev pub decreases-own : goal.decreases-own
decreases-own l = 2 * nodes (exp_of l.e.now)

abbrev pub decreases-operand : goal.decreases-operand
decreases-operand l = 2 * nodes (exp_of l.e.now) + 1

abbrev pub decreases-parts : goal.decreases-parts
decreases-parts l = 2 * all_nodes (exps_of l.es.now) + 1

abbrev pub decreases-arguments : goal.decreases-arguments
decreases-arguments l = 2 * all_nodes (exps_of l.es.now) + 1

abbrev pub invariant-parts-loop-e : goal.invariant-parts-loop-e
invariant-parts-loop-e l = map sized_of l.all.items ≡ map (own_of (names_of l.room)) (take l.e-index l.es)

abbrev pub invariant-arguments-loop-i : goal.invariant-arguments-loop-i
invariant-arguments-loop-i l = map sized_of l.all.items ≡ at_inputs (map (own_of (names_of l.room)) (take l.i l.es)) (input_widths (names_of l.room) l.function)
