use Rattle.std.proofs.Common.{refl}
use Rattle.std.proofs.lemmas.Result.{on_ok_weaker}
use Rattle.sub_nodes.specs.Code.{number}
use Rattle.sub_split.specs.Makes.{nodes_view}
use Rattle.sub_split.specs.Views.{call_view}
use Rattle.sub_split.proofs.Placing.{place-calls, place-leads}
use Rattle.sub_split.proofs.making.Nodes.place.Goals as goal

pub returns-in_ok-push-in-Calls-clause-nodes : goal.returns-in_ok-push-in-Calls-clause-nodes
returns-in_ok-push-in-Calls-clause-nodes c =
    let nodes = nodes_view c.args.self.now in
    on_ok_weaker c.push-in-Calls.result
    (place-calls c.args.rises c.args.head c.in-Calls.path c.in-Calls.call c.in-Calls.to c.reverse.new.self.items nodes (nodes_view c.push.new.self) (nodes_view c.push-in-Calls.new.self) (number c.args.self.now.from nodes) c.in_ok-trap-in-Calls.trap
    (call_view c.in-Calls.path.now c.in-Calls.call.now) c.in-Calls.is refl c.in_ok-trap-in-Calls.ensures c.reverse.ensures.items c.in_ok-push-in-Calls.ensures.nodes)
    c.push-in-Calls.ensures.nodes

pub returns-in-Leads-clause-nodes : goal.returns-in-Leads-clause-nodes
returns-in-Leads-clause-nodes c =
    let nodes = nodes_view c.args.self.now in
    on_ok_weaker c.push-in-Leads.result
    (place-leads c.args.rises c.args.head c.in-Leads.on c.reverse.new.self.items nodes (nodes_view c.push-in-Leads.new.self) (number c.args.self.now.from nodes) c.in-Leads.is c.reverse.ensures.items)
    c.push-in-Leads.ensures.nodes
