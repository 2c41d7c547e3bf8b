use Rattle.std.proofs.Common.{◌≡◌, take}
use Rattle.fab_join.proofs.numbers.copied_parts.Given as goal

abbrev pub invariant-loop-part : goal.invariant-loop-part
invariant-loop-part l = l.all.items ≡ take l.part-index l.parts
