use Rattle.std.proofs.Common.{◌≡◌, ◌++◌, take, drop}
use Rattle.vl_base.specs.declared.files.OpenFile.{OpenFile}
use Rattle.vl_base.specs.Files.{with_file}
use Rattle.ten_files.proofs.open.place_behind.Given as goal

abbrev pub invariant-loop-number : goal.invariant-loop-number
invariant-loop-number l = (file : OpenFile) → file.slot ≡ l.slot → with_file file l.table ≡ take l.number l.table ++ with_file file (drop l.number l.table)
