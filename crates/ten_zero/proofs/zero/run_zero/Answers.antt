use Rattle.std.proofs.lemmas.Result.{IfOk-weaker}
use Rattle.vl_design.specs.Trees.{flat_of}
use Rattle.ten_zero.specs.Early.{from_zero}
use Rattle.ten_zero.proofs.Behind.{is-behind}
use Rattle.ten_zero.proofs.zero.run_zero.Goals as goal

pub returns : goal.returns
returns c =
    let d = flat_of c.args.design.now in
    let files = c.args.files.now in
    let order = c.args.order.now in
    let r = c.requires in
    IfOk-weaker c.run.result _ _ (λ e k. is-behind d files order r.unrolled r.checked r.order e k.1
    (λ plan. c.the_table_of_a_checked_design_can_run.ensures (from_zero d files plan) order r.checked r.unrolled r.order tt) k.0) c.run.ensures
