use Rattle.std.proofs.Common.{◌≡◌, length}
use Rattle.vl_lex.specs.Reading.{past_pair as past_pair_lem}
use Rattle.vl_lex.proofs.runs.past_pair.Given as goal

abbrev pub invariant-loop-byte : goal.invariant-loop-byte
invariant-loop-byte l = past_pair_lem l.a l.b l.rest ≡ past_pair_lem l.a l.b l.text

abbrev pub decreases-loop-byte : goal.decreases-loop-byte
decreases-loop-byte l = length l.rest
