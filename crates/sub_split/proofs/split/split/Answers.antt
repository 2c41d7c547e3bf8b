use Rattle.std.proofs.Common.{map}
use Rattle.sub_split.specs.Views.{node_view}
use Rattle.sub_split.proofs.Waving.{table-is, early-is}
use Rattle.sub_split.proofs.split.split.Goals as goal

pub returns-clause-table : goal.returns-clause-table
returns-clause-table c =
    table-is c.args.design.now c.as_slice-processes.result.now c.has_fall-falls.result c.update_count-from.result c.in_ok-behind_up.behind_up c.in_ok-behind_down.behind_down c.in_ok-up.up c.in_ok-down.down c.in_ok-start.start
    (map node_view c.in_ok-nodes.nodes.items) c.as_slice-processes.ensures c.has_fall-falls.ensures c.update_count-from.ensures c.in_ok-up.ensures c.in_ok-behind_up.ensures c.in_ok-down.ensures c.in_ok-behind_down.ensures c.in_ok-start.ensures
    c.in_ok-nodes.ensures

pub returns-clause-early : goal.returns-clause-early
returns-clause-early c =
    early-is c.args.design.now c.as_slice-processes.result.now c.has_fall-falls.result c.update_count-from.result c.in_ok-behind_up.behind_up c.in_ok-behind_down.behind_down c.in_ok-up.up c.in_ok-down.down c.as_slice-processes.ensures c.has_fall-falls.ensures
    c.update_count-from.ensures c.in_ok-up.ensures c.in_ok-behind_up.ensures c.in_ok-down.ensures c.in_ok-behind_down.ensures
