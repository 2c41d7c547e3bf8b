use Rattle.std.proofs.Common.{◌≡◌, ◌<◌, length, take}
use Rattle.ten_files.specs.Tables.{open_from}
use Rattle.ten_core.proofs.hold.all_open.Given as goal

-- the files of the slots so far; behind the first of them it is known how many there are
abbrev pub invariant-loop-slot : goal.invariant-loop-slot
invariant-loop-slot l = record {
  added : l.all.items ≡ open_from l.files 0 (take l.slot l.table);
  many : 0 < l.slot → length l.table ≡ 16;
}
