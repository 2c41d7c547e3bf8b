use Rattle.vl_limits.specs.Bodies.{next_statements, next_nodes}
use Rattle.vl_limits.specs.Tallies.{counted_of}
use Rattle.vl_limits.proofs.Adding.{pushed}
use Rattle.vl_limits.proofs.Rounds.{statements-are, nodes-are}
use Rattle.vl_limits.proofs.bodies.next_bodies.Goals as goal

pub loop-func-preserved : goal.loop-func-preserved
loop-func-preserved c =
    let signals = c.args.signals.now in
    let before = c.args.before.now in
    let g = c.func-item.result in
    let few = c.statements_tally-few in
    let many = c.nodes_tally-many in
    let s = statements-are signals g few.result.cap c.in_ok-statements.statements (counted_of few.result) c.deref.result.now before.statements.items c.in_ok-statements.ensures few.ensures.cap few.ensures.counted c.deref.ensures.value in
    let n = nodes-are signals g many.result.cap c.in_ok-nodes.nodes c.in_ok-statements.statements (counted_of many.result) c.deref-2.result.now before.statements.items before.nodes.items c.in_ok-nodes.ensures s many.ensures.cap many.ensures.counted c.deref-2.ensures.value in
    record {
      few = pushed (next_statements signals before.statements.items) c.args.funcs.now c.loop-func.func-index c.in_ok-statements.statements g c.loop-func.all.statements.items c.push.new.self.items c.loop-func-test.true c.func-item.is s c.loop-func.invariant.few c.in_ok-push.ensures.items;
      many = pushed (next_nodes signals before.statements.items before.nodes.items) c.args.funcs.now c.loop-func.func-index c.in_ok-nodes.nodes g c.loop-func.all.nodes.items c.push-in-loop-func.new.self.items c.loop-func-test.true c.func-item.is n c.loop-func.invariant.many c.in_ok-push-2.ensures.items;
    }
