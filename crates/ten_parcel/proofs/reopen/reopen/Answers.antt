use Rattle.std.proofs.Common.{sym, ap, ◌∙◌}
use Rattle.vl_eval.specs.vl_base.specs.Files.{closed, descriptor, with_file}
use Rattle.vl_run.specs.ten_files.specs.Tables.{open_files}
use Rattle.ten_parcel.proofs.Opening.{there, row-is, place-within}
use Rattle.ten_parcel.proofs.reopen.reopen.Goals as goal

pub unreachable-requires : goal.unreachable-requires
unreachable-requires c = there c.args.files.now c.args.file.now c.requires.there (sym c.in-None.is ∙ c.number.ensures.number)

pub set_row-requires-clause-place : goal.set_row-requires-clause-place
set_row-requires-clause-place c = place-within c.args.files.now c.args.file.now c.in-Some.number c.requires.there (sym c.in-Some.is ∙ c.number.ensures.number)

pub returns-clause-table : goal.returns-clause-table
returns-clause-table c =
    let files = c.args.files.now in
    let file = c.args.file.now in
    c.set_row.ensures.table
    ∙ ap (λ row. with_file row (closed (open_files files c.args.table.now) (descriptor file.slot)))
    (row-is files file c.in-Some.number (sym c.in-Some.is ∙ c.number.ensures.number))
