use Rattle.std.proofs.Common.{◌∙◌, ap, false, arith}
use Rattle.vl_base.specs.Files.{free_slot, opened_at, with_file}
use Rattle.ten_files.specs.declared.row.Row.{Row}
use Rattle.ten_files.specs.Tables.{name_at, open_files, open_row}
use Rattle.ten_files.proofs.Rows.{row-new}
use Rattle.ten_files.proofs.table.Table.open_number.Goals as goal

pub returns-in-Some-clause-table : goal.returns-in-Some-clause-table
returns-in-Some-clause-table c =
    λ files.
    let slot = c.in-Some.slot in
    let row : Row = record { file = c.args.file; place = 0; ended = false } in
    row-new files c.self.inside.rows 0 slot slot row (omega arith) c.in-Some.ensures.free
    ∙ ap (λ rows. with_file (open_row files slot row) (open_files files rows)) c.self.view_is
    ∙ ap (λ free. (opened_at (open_files files c.args.self.now) (name_at files c.args.file) free).table)
    (c.in-Some.ensures.lowest files ∙ ap (λ rows. free_slot (open_files files rows)) c.self.view_is)
