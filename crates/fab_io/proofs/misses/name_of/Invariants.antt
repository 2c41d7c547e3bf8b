use Rattle.std.proofs.Common.{◌≡◌, take}
use Rattle.fab_io.specs.Missing.{bytes_of}
use Rattle.fab_io.proofs.misses.name_of.Given as goal

abbrev pub invariant-loop-byte : goal.invariant-loop-byte
invariant-loop-byte l = bytes_of l.bytes.value ≡ take l.byte-index l.byte-items
