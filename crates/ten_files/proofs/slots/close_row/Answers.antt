use Rattle.std.proofs.Common.{◌∙◌, ap, arith}
use Rattle.vl_base.specs.Files.{closed}
use Rattle.ten_files.specs.Tables.{open_files}
use Rattle.ten_files.proofs.Rows.{row-none, closed-past}
use Rattle.ten_files.proofs.slots.close_row.Goals as goal

pub returns-in-None-clause-table : goal.returns-in-None-clause-table
returns-in-None-clause-table c =
    λ files. closed-past files c.args.rows.now 0 c.args.fd (omega (arith, c.requires)) c.in-None.ensures.none

pub returns-in-Some-clause-table : goal.returns-in-Some-clause-table
returns-in-Some-clause-table c =
    λ files.
    let slot = c.in-Some.slot in
    row-none files c.args.rows.now 0 slot slot (omega arith) (omega (arith, c.requires, c.in-Some.ensures.below))
    ∙ ap (closed (open_files files c.args.rows.now)) c.in-Some.ensures.slot
