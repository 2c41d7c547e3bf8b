use Rattle.std.proofs.Common.{◌≡◌, ◌∙◌, ap, sym, length, arith, rules}
use Rattle.std.specs.Prelude.{None, Some, option_map, slice_get}
use Rattle.std.proofs.lemmas.Option.{slice_get-get_or}
use Rattle.vl_base.specs.Files.{descriptor, open_file}
use Rattle.ten_files.specs.Tables.{open_files, open_row}
use Rattle.ten_files.proofs.Rows.{open_file-at}
use Rattle.ten_files.proofs.table.Table.row.Goals as goal

pub returns-in-None-clause-file : goal.returns-in-None-clause-file
returns-in-None-clause-file c =
    let slot = c.args.slot in
    let full : length c.self.inside.rows ≡ 16 = search rules in
    λ files.
    ap (λ rows. open_file (open_files files rows) (descriptor slot)) (sym c.self.view_is)
    ∙ open_file-at files c.self.inside.rows 0 slot slot (omega arith) (omega (arith, full, c.requires))
    ∙ ap (option_map (open_row files slot)) c.in-None.is

pub returns-in-Some-clause-row : goal.returns-in-Some-clause-row
returns-in-Some-clause-row c =
    let slot = c.args.slot in
    let full : length c.self.inside.rows ≡ 16 = search rules in
    ap (λ rows. slice_get rows slot) (sym c.self.view_is)
    ∙ slice_get-get_or c.self.inside.rows slot None (omega (arith, full, c.requires))
    ∙ ap (λ row. Some row) c.in-Some.is

pub returns-in-Some-clause-file : goal.returns-in-Some-clause-file
returns-in-Some-clause-file c =
    let slot = c.args.slot in
    let full : length c.self.inside.rows ≡ 16 = search rules in
    λ files.
    ap (λ rows. open_file (open_files files rows) (descriptor slot)) (sym c.self.view_is)
    ∙ open_file-at files c.self.inside.rows 0 slot slot (omega arith) (omega (arith, full, c.requires))
    ∙ ap (option_map (open_row files slot)) c.in-Some.is
