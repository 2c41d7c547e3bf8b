use Rattle.std.proofs.Common.{List, length, ap, ◌∙◌, arith}
use Rattle.ten_form.specs.declared.store.Store.{Store}
use Rattle.cell_states.proofs.Counting.{own-many}
use Rattle.cell_states.proofs.table.own_stores.Goals as goal

pub returns : goal.returns
returns c = λ x there.
    ap (λ (xs : List Store). length xs) (c.as_slice.ensures.value ∙ c.in_ok-own.ensures.stores) ∙ own-many c.args.nodes.now c.args.number _ x (omega arith) there
