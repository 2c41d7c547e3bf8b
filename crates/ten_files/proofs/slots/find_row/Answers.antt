use Rattle.std.proofs.Common.{◌∙◌, ap, sym, arith}
use Rattle.std.specs.Prelude.{None, Some, option_map}
use Rattle.std.proofs.lemmas.Option.{slice_get-get_or}
use Rattle.vl_base.specs.Files.{open_file}
use Rattle.ten_files.specs.Tables.{open_files, open_row}
use Rattle.ten_files.proofs.Rows.{open_file-at, open_file-past}
use Rattle.ten_files.proofs.slots.find_row.Goals as goal

pub returns-in-None-clause-file : goal.returns-in-None-clause-file
returns-in-None-clause-file c =
    λ files. open_file-past files c.args.rows.now 0 c.args.fd (omega arith) c.in-None.ensures.none

pub returns-in-None-rows-clause-file : goal.returns-in-None-rows-clause-file
returns-in-None-rows-clause-file c =
    λ files.
    ap (open_file (open_files files c.args.rows.now)) (sym c.in-Some.ensures.slot)
    ∙ open_file-at files c.args.rows.now 0 c.in-Some.slot c.in-Some.slot (omega arith) (omega (arith, c.in-Some.ensures.below))
    ∙ ap (option_map (open_row files c.in-Some.slot)) c.in-None-rows.is

pub returns-in-Some-rows-clause-row : goal.returns-in-Some-rows-clause-row
returns-in-Some-rows-clause-row c =
    slice_get-get_or c.args.rows.now c.in-Some.slot None (omega (arith, c.in-Some.ensures.below))
    ∙ ap (λ row. Some row) c.in-Some-rows.is

pub returns-in-Some-rows-clause-file : goal.returns-in-Some-rows-clause-file
returns-in-Some-rows-clause-file c =
    λ files.
    ap (open_file (open_files files c.args.rows.now)) (sym c.in-Some.ensures.slot)
    ∙ open_file-at files c.args.rows.now 0 c.in-Some.slot c.in-Some.slot (omega arith) (omega (arith, c.in-Some.ensures.below))
    ∙ ap (option_map (open_row files c.in-Some.slot)) c.in-Some-rows.is
