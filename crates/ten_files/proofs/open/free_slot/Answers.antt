use Rattle.std.proofs.Common.{◌≡◌, true, ◌∙◌}
use Rattle.vl_base.specs.Files.{is_taken}
use Rattle.ten_files.proofs.Tables.{slot-past}
use Rattle.ten_files.proofs.open.free_slot.Goals as goal

pub loop-slot-preserved : goal.loop-slot-preserved
loop-slot-preserved c =
    let taken : is_taken c.args.table.now c.loop-slot.slot ≡ true = cc in
    c.loop-slot.invariant ∙ slot-past c.args.table.now c.loop-slot.slot c.loop-slot-test.true taken
