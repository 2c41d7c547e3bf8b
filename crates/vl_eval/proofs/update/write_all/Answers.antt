use Rattle.std.proofs.Common.{sym, ◌∙◌}
use Rattle.vl_eval.specs.Rooms.{names_of}
use Rattle.vl_eval.specs.Updates.{update_of}
use Rattle.vl_eval.proofs.Placing.{fine-updated, updates-more}
use Rattle.vl_eval.proofs.update.write_all.Goals as goal

pub loop-u-preserved : goal.loop-u-preserved
loop-u-preserved c =
    let rows = (names_of c.args.room.now).rows in
    let values = c.loop-u.values.items in
    let l = c.loop-u.invariant in
    let e = c.write.ensures in
    record {
      fine = rw e (fine-updated rows values (update_of c.u-item.result) l.fine);
      leads = rw e (sym (updates-more rows c.args.updates.now c.loop-u.u-index c.u-item.result values c.loop-u-test.true c.u-item.is) ∙ l.leads);
    }
