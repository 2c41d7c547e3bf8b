use Rattle.std.proofs.Common.{◌≡◌, drop}
use Rattle.vl_base.specs.Files.{at_end}
use Rattle.ten_files.proofs.read.at_end.Given as goal

abbrev pub invariant-loop-file : goal.invariant-loop-file
invariant-loop-file l = at_end l.table l.fd ≡ at_end (drop l.file-index l.table) l.fd
