use Rattle.std.proofs.Common.{◌≡◌, drop}
use Rattle.vl_base.specs.Files.{open_file}
use Rattle.ten_files.proofs.files_row.open_row.Given as goal

abbrev pub invariant-loop-file : goal.invariant-loop-file
invariant-loop-file l = open_file l.table l.fd ≡ open_file (drop l.file-index l.table) l.fd
