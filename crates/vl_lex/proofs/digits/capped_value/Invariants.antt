use Rattle.std.proofs.Common.{◌≡◌, ◌^◌, min, take}
use Rattle.vl_tree.specs.Numbers.{value_of as value_of_lem}
use Rattle.vl_lex.proofs.digits.capped_value.Given as goal

abbrev pub invariant-loop-byte : goal.invariant-loop-byte
invariant-loop-byte l = l.value ≡ min (value_of_lem l.radix (take l.byte-index l.digits)) (2 ^ 32)
