use Rattle.vl_limits.specs.Tallies.{counted_of}
use Rattle.vl_limits.proofs.Passing.{statements-found, nodes-found, added-many}
use Rattle.vl_limits.proofs.limits.process_sums.Goals as goal

pub returns-then-statements-gt100000 : goal.returns-then-statements-gt100000
returns-then-statements-gt100000 c =
    let bodies = c.args.bodies.now in
    let few = c.statements_tally-few in
    let s = statements-found c.args.design.now bodies.statements.items bodies.nodes.items c.requires.bodies c.args.process.now c.requires.heads few.result.cap c.args.from.statements c.in_ok-statements.statements (counted_of few.result) c.deref.result.now c.as_slice.result.now
    c.in_ok-statements.ensures few.ensures.cap few.ensures.counted c.deref.ensures.value c.as_slice.ensures in
    added-many c.args.design.now bodies.statements.items bodies.nodes.items c.requires.bodies c.args.process.now c.requires.heads c.args.from.statements c.args.from.nodes c.in_ok-statements.statements c.args.from.nodes s c.if-statements-gt100000.true

pub returns : goal.returns
returns c =
    let bodies = c.args.bodies.now in
    let few = c.statements_tally-few in
    let many = c.nodes_tally-many in
    record {
      few_statements = statements-found c.args.design.now bodies.statements.items bodies.nodes.items c.requires.bodies c.args.process.now c.requires.heads few.result.cap c.args.from.statements c.in_ok-statements.statements (counted_of few.result) c.deref.result.now c.as_slice.result.now
          c.in_ok-statements.ensures few.ensures.cap few.ensures.counted c.deref.ensures.value c.as_slice.ensures;
      few_nodes = λ q. nodes-found c.args.design.now bodies.statements.items bodies.nodes.items c.requires.bodies c.args.process.now c.requires.heads many.result.cap c.args.from.statements c.args.from.nodes c.in_ok-nodes.nodes (counted_of many.result) c.deref-2.result.now c.as_slice.result.now
          c.in_ok-nodes.ensures many.ensures.cap many.ensures.counted c.deref-2.ensures.value c.as_slice.ensures q;
    }
