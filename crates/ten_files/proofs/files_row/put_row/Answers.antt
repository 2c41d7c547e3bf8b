use Rattle.std.proofs.Common.{◌<◌, length, arith}
use Rattle.std.specs.Prelude.{if◌then◌else◌, ◌==◌}
use Rattle.std.proofs.lemmas.List.Edits.{map_over_more}
use Rattle.vl_base.specs.declared.files.OpenFile.{OpenFile}
use Rattle.ten_files.proofs.files_row.put_row.Goals as goal

pub loop-number-preserved : goal.loop-number-preserved
loop-number-preserved c =
    let l = c.loop-number in
    let file = c.args.file.now in
    let old = c.args.table.now.items in
    let there : l.number < length old = omega arith in
    rw c.in_ok-replace_row.ensures
    (map_over_more (λ (r : OpenFile). if r.slot == file.slot then file else r) old l.table.items l.number c.index_mut.result.now there l.invariant c.index_mut.ensures.value)
