use Rattle.std.proofs.Common.{arith}
use Rattle.vl_design.specs.Trees.{flat_of}
use Rattle.ten_form.specs.sub_nodes.specs.Nodes as n
use Rattle.ten_form.specs.sub_split.specs.Views.{segment_view, way_on_view}
use Rattle.cell_states.proofs.Noding.{on-both, has-one}
use Rattle.cell_states.proofs.table.add_run.Goals as goal

pub returns-clause-more : goal.returns-clause-more
returns-clause-more c =
    let d = flat_of c.args.design.now in
    let x = n.Run (segment_view c.args.segment.now) (way_on_view c.args.on.now) in
    on-both c.add.result c.add.ensures.states c.add.ensures.slots (λ states slots number kept.
    has-one d c.args.base.now.order.now number x _ c.args.built.now.states c.add.new.self.states c.in_ok-state.state c.args.built.now.slots c.add.new.self.slots states slots c.in_ok-state.ensures.first
    (let a = c.in_ok-state.ensures.few in let b = c.in_ok-sets.ensures.few number kept in omega (arith, a, b))
    (c.in_ok-state.ensures.narrow d c.args.base.now.order.now number x (rw c.deref.ensures.value (c.in_ok-sets.ensures.made number kept)))
    (c.in_ok-state.ensures.does d c.args.base.now.order.now number x (rw c.deref.ensures.value (c.in_ok-sets.ensures.made number kept))))
