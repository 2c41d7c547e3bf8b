use Rattle.std.proofs.Common.{◌≡◌, ◌^◌, ◌%◌, take}
use Rattle.std.specs.List.{fold}
use Rattle.vl_tree.specs.Numbers.{shifted_z, leading_z as leading_z_lem}
use Rattle.vl_lex.proofs.digits.wrapped_z.Given as goal

abbrev pub invariant-loop-byte : goal.invariant-loop-byte
invariant-loop-byte l = l.bits ≡ fold (shifted_z l.radix) (leading_z_lem l.digits) (take l.byte-index l.digits) % 2 ^ 128
