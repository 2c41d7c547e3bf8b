use Rattle.std.proofs.Common.{arith}
use Rattle.vl_design.specs.Trees.{flat_of}
use Rattle.ten_form.specs.sub_nodes.specs.Nodes as n
use Rattle.cell_states.proofs.Noding.{on-both, has-one}
use Rattle.cell_states.proofs.table.add_update.Goals as goal

pub returns-clause-more : goal.returns-clause-more
returns-clause-more c =
    let d = flat_of c.args.design.now in
    let x = n.Apply c.args.to in
    on-both c.add.result c.add.ensures.states c.add.ensures.slots (λ states slots order number.
    has-one d order number x _ c.args.built.now.states c.add.new.self.states c.in_ok-state.state c.args.built.now.slots c.add.new.self.slots states slots c.in_ok-state.ensures.first
    (let a = c.in_ok-state.ensures.few in let b = c.in_ok-made.ensures.few in omega (arith, a, b))
    (c.in_ok-state.ensures.narrow d order number x (rw c.deref.ensures.value (c.in_ok-made.ensures.made order number)))
    (c.in_ok-state.ensures.does d order number x (rw c.deref.ensures.value (c.in_ok-made.ensures.made order number))))
