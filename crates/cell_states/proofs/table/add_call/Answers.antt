use Rattle.std.proofs.Common.{arith}
use Rattle.vl_design.specs.Trees.{flat_of}
use Rattle.ten_form.specs.sub_nodes.specs.Nodes as n
use Rattle.ten_form.specs.sub_split.specs.Views.{call_view, segment_view}
use Rattle.cell_states.proofs.Noding.{on-both, has-two}
use Rattle.cell_states.proofs.table.add_call.Goals as goal

pub returns-clause-more : goal.returns-clause-more
returns-clause-more c =
    let d = flat_of c.args.design.now in
    let g = segment_view c.args.segment.now in
    let task = call_view c.args.path.now c.args.call.now in
    on-both c.add-2.result c.add-2.ensures.states c.add-2.ensures.slots (λ states slots number kept.
    has-two d c.args.base.now.order.now number g c.args.trap task c.args.to _ c.args.built.now.states c.add.new.self.states c.add-2.new.self.states c.in_ok-run.run' c.in_ok-run.wait c.args.built.now.slots c.add-2.new.self.slots
    c.in_ok-add.ensures.states states slots c.in_ok-run.ensures.behind c.in_ok-run.ensures.first
    (let a = c.in_ok-run.ensures.few in let b = c.in_ok-sets.ensures.few number kept in omega (arith, a, b))
    (c.in_ok-run.ensures.narrow d c.args.base.now.order.now number (n.Run g (n.Go c.args.trap)) (rw c.deref.ensures.value (c.in_ok-sets.ensures.made number kept)))
    (c.in_ok-run.ensures.calls d c.args.base.now.order.now number g task (rw c.deref.ensures.value (c.in_ok-sets.ensures.made number kept)) c.in_ok-sets.ensures.call (c.in_ok-sets.ensures.asks number kept)))
