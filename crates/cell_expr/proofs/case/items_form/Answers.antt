use Rattle.std.proofs.Common.{ap, sym, ◌∙◌, drop, ◌+◌}
use Rattle.vl_design.specs.declared.design.Form.{Form}
use Rattle.vl_design.specs.Exec.{items_form}
use Rattle.vl_eval.specs.Rooms.{names_of}
use Rattle.vl_run.specs.Cases.{items_of}
use Rattle.vl_run.proofs.Casing.{labels-more, items-form-more}
use Rattle.cell_expr.proofs.case.items_form.Goals as goal

pub loop-item-preserved : goal.loop-item-preserved
loop-item-preserved c =
    let names = names_of c.args.room.now in
    let items = c.args.items.now in
    let i = c.loop-item.item-index in
    let x = c.item-item.result in
    let l = c.loop-item.invariant in
    let sound = labels-more names items i x c.loop-item-test.true c.item-item.is l.sound in
    let form = rw c.deref.ensures.value at c.labels_form-all.ensures.value in
    record {
      sound = sound.1;
      width = c.labels_form-all.ensures.width;
      leads = λ path.
          let rest = items_of path (drop (i + 1) items) in
          ap (λ (z : Form). items_form names z rest) form ∙ (sym (items-form-more names c.loop-item.all path items i x c.loop-item-test.true c.item-item.is) ∙ l.leads path);
    }
