use Rattle.std.proofs.Common.{◌≡◌, ◌+◌, ◌*◌, drop}
use Rattle.vl_design.specs.Trees.{exp_of, exps_of}
use Rattle.vl_design.specs.Width.{total_width}
use Rattle.vl_width.specs.Nodes.{nodes, all_nodes}
use Rattle.vl_width.specs.Room.{names_of}
use Rattle.vl_width.proofs.form.+form.Given as goal

abbrev pub decreases-own_form : goal.decreases-own_form
decreases-own_form l = 2 * nodes (exp_of l.e.now)

abbrev pub decreases-total_width : goal.decreases-total_width
decreases-total_width l = 2 * all_nodes (exps_of l.es.now) + 1

abbrev pub invariant-total_width-loop-e : goal.invariant-total_width-loop-e
invariant-total_width-loop-e l =
    l.total + total_width (names_of l.room) (exps_of (drop l.e-index l.es)) ≡ total_width (names_of l.room) (exps_of l.es)
