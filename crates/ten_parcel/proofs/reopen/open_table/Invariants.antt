use Rattle.std.proofs.Common.{◌≡◌, take}
use Rattle.vl_run.specs.ten_files.specs.Tables.{open_files, IsTableOf}
use Rattle.ten_parcel.proofs.reopen.open_table.Given as goal

abbrev pub invariant-loop-file : goal.invariant-loop-file
invariant-loop-file l = record {
  opened : open_files l.files l.table ≡ take l.file-index l.list;
  fits : IsTableOf l.files l.table;
}
