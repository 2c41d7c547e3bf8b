use Rattle.std.proofs.Common.{length}
use Rattle.vl_tree.specs.Strings.{Items}
use Rattle.vl_lex.proofs.strings.items_of.Given as goal

abbrev pub invariant-loop-byte : goal.invariant-loop-byte
invariant-loop-byte l = Items l.inside l.bytes.items l.rest

abbrev pub decreases-loop-byte : goal.decreases-loop-byte
decreases-loop-byte l = length l.rest
