use Rattle.std.proofs.Common.{◌<◌, List, [], ◌∷◌, ◌++◌, length, get_or, Option, None, arith, sym, ap, ◌∙◌}
use Rattle.std.proofs.lemmas.Option.{slice_get-get_or}
use Rattle.vl_design.specs.vl_base.specs.declared.files.OpenFile.{OpenFile}
use Rattle.ten_files.specs.declared.row.Row.{Row}
use Rattle.ten_files.specs.Tables.{open_from}
use Rattle.ten_core.proofs.Adding.{open-more}
use Rattle.ten_core.proofs.hold.all_open.Goals as goal

pub loop-slot-preserved : goal.loop-slot-preserved
loop-slot-preserved c =
    let files = c.args.files.now in
    let rows : List (Option Row) = c.args.table.now in
    let n = c.loop-slot.slot in
    let many = c.in_ok-add_file.ensures.slots in
    let lt : n < length rows = omega (arith, many) in
    let row = get_or rows n None in
    let there = slice_get-get_or rows n None lt in
    record {
      added = c.in_ok-add_file.ensures.added row there ∙ ap (λ (fs : List OpenFile). fs ++ open_from files n (row ∷ [])) c.loop-slot.invariant.added
          ∙ sym (open-more files rows n row (omega (arith, lt)) there);
      many = λ positive. many;
    }
