use Rattle.std.proofs.Common.{◌∙◌}
use Rattle.ten_core.specs.vl_design.specs.Trees.{flat_of}
use Rattle.ten_make.proofs.Imaging.{first-cells, image-is}
use Rattle.ten_make.proofs.Keeping.{within}
use Rattle.ten_make.proofs.image.made.Goals as goal

pub states-requires-clause-nodes : goal.states-requires-clause-nodes
states-requires-clause-nodes c =
    let d = flat_of c.args.design.now in
    let t = c.in_ok-nodes.nodes in
    first-cells d t.nodes.items t.early c.in_ok-nodes.ensures.early (c.nodes_of_a_tenants_design_are_compiled.ensures d c.args.order.now t.nodes.items c.requires c.in_ok-nodes.ensures.nodes)

pub states-requires-clause-paired : goal.states-requires-clause-paired
states-requires-clause-paired c = c.calls_of_a_table_stand_apart.ensures.paired (flat_of c.args.design.now)

pub returns-clause-image : goal.returns-clause-image
returns-clause-image c image design-is order-is table-is begins-at slots-are stores-are ports-are cost-is =
    let d = flat_of c.args.design.now in
    let t = c.in_ok-nodes.nodes in
    let made = c.in_ok-states.ensures in
    image-is d c.args.order.now t.nodes.items c.in_ok-states.states t.rise.first c.in_ok-ports.ports image c.in_ok-nodes.ensures.nodes c.in_ok-nodes.ensures.few c.in_ok-nodes.ensures.rise
    (c.calls_of_a_table_stand_apart.ensures.apart d) c.in_ok-ports.ensures.ports c.in_ok-ports.ensures.held
    (record { register = made.state; states = made.states; stores = made.stores })
    (record { design = design-is; ordered = order-is; table = table-is; slots = slots-are; stores = stores-are; begins = begins-at; ports = ports-are; costs = cost-is ∙ c.in_ok-cost.ensures })

pub returns-clause-within : goal.returns-clause-within
returns-clause-within c image table-is ports-are =
    let d = flat_of c.args.design.now in
    within d c.args.order.now c.in_ok-states.states c.in_ok-ports.ports image c.requires (c.a_tenants_design_delays_variables.ensures d c.args.order.now c.requires) c.registers_are_within_cost.ensures c.nodes_are_within_cost.ensures (c.calls_of_a_table_stand_apart.ensures.paired d) c.in_ok-ports.ensures.ports c.in_ok-states.ensures.states c.in_ok-states.ensures.few c.in_ok-states.ensures.narrow table-is ports-are
