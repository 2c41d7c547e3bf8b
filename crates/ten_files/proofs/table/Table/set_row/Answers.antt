use Rattle.std.proofs.Common.{◌∙◌, ap, arith}
use Rattle.vl_base.specs.Files.{closed, descriptor, with_file}
use Rattle.ten_files.specs.declared.row.Row.{Row}
use Rattle.ten_files.specs.Tables.{open_files, open_row}
use Rattle.ten_files.proofs.Rows.{row-set}
use Rattle.ten_files.proofs.table.Table.set_row.Goals as goal

pub returns-clause-table : goal.returns-clause-table
returns-clause-table c =
    let files = c.args.files.now in
    let slot = c.args.slot in
    let row : Row = record { file = c.args.file; place = c.args.place; ended = c.args.ended } in
    row-set files c.self.inside.rows 0 slot slot row (omega arith) (omega (arith, c.requires.slot))
    ∙ ap (λ rows. with_file (open_row files slot row) (closed (open_files files rows) (descriptor slot))) c.self.view_is
