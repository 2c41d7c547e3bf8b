use Rattle.std.proofs.Common.{◌≡◌, drop}
use Rattle.vl_base.specs.Files.{is_taken}
use Rattle.ten_files.proofs.open.is_taken.Given as goal

abbrev pub invariant-loop-file : goal.invariant-loop-file
invariant-loop-file l = is_taken l.table l.slot ≡ is_taken (drop l.file-index l.table) l.slot
