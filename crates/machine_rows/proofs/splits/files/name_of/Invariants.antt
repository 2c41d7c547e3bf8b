use Rattle.std.proofs.Common.{◌≤◌, length}
use Rattle.machine_rows.proofs.splits.files.name_of.Given as goal

-- the name isn't too long
abbrev pub invariant-loop-byte : goal.invariant-loop-byte
invariant-loop-byte l = length l.name.items ≤ 255
