use Rattle.std.proofs.Common.{◌≡◌, ◌≤◌, ◌+◌, ◌∙◌, ap, subst, sym, length, take, arith}
use Rattle.std.specs.Prelude.{Some}
use Rattle.vl_base.specs.Files.{bytes_left, character_of, open_file, with_row}
use Rattle.ten_files.specs.Tables.{bytes_at, open_files, open_row, row_after, IsTableOf}
use Rattle.ten_files.proofs.After.{character-after}
use Rattle.ten_files.proofs.Fits.{fits-after, fits-get, fits-set}
use Rattle.ten_files.proofs.Rows.{row-again}
use Rattle.ten_files.proofs.table.Table.getc.Goals as goal

pub returns-in-Some-clause-table : goal.returns-in-Some-clause-table
returns-in-Some-clause-table c =
    let files = c.args.files.now in
    let table = open_files files c.args.self.now in
    let slot = c.in-Some.slot in
    let row = c.in-Some.row in
    let next = c.after_read.result in
    let left = bytes_left files (open_row files slot row) in
    let found : open_file table c.args.fd ≡ Some (open_row files slot row)
    = ap (λ rows. open_file (open_files files rows) c.args.fd) (sym c.self.view_is) ∙ c.in-Some.ensures.file files in
    let got : c.first_bytes-got.result.now ≡ take 1 left
    = c.first_bytes-got.ensures.first ∙ ap (take 1) c.bytes_left.ensures.rest in
    row-again files c.self.inside.rows 0 slot slot row next (omega arith) c.in-Some.ensures.row
    ∙ ap (λ rows. with_row (open_row files slot next) (open_files files rows)) c.self.view_is
    ∙ ap (λ row. with_row (open_row files slot row) table) c.after_read.ensures
    ∙ ap (λ bytes. with_row (open_row files slot (row_after row (length bytes) 1)) table) got
    ∙ character-after files slot row table left
    ∙ sym (ap (λ file. (character_of files table file).table) found)

pub returns-in-Some-clause-fits : goal.returns-in-Some-clause-fits
returns-in-Some-clause-fits c =
    let files = c.args.files.now in
    let row = c.in-Some.row in
    let count = length c.first_bytes-got.result.now in
    let all : IsTableOf files c.self.inside.rows = subst (IsTableOf files) (sym c.self.view_is) c.requires in
    let within : row.place + count ≤ length (bytes_at files row.file)
    = omega (arith, c.bytes_left.ensures.within, c.first_bytes-got.ensures.no_more) in
    let old = fits-get files c.self.inside.rows c.in-Some.slot row c.in-Some.ensures.row all in
    fits-set files c.self.inside.rows c.in-Some.slot c.after_read.result
    (rw c.after_read.ensures (fits-after files row count 1 old within)) all
