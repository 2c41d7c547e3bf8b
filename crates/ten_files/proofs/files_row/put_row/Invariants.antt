use Rattle.std.proofs.Common.{◌≡◌, ◌++◌, drop, take}
use Rattle.vl_base.specs.Files.{with_row}
use Rattle.ten_files.proofs.files_row.put_row.Given as goal

abbrev pub invariant-loop-number : goal.invariant-loop-number
invariant-loop-number l = l.table.items ≡ with_row l.file (take l.number l.initial.table.items) ++ drop l.number l.initial.table.items
