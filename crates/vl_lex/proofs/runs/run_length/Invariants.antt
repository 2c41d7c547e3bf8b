use Rattle.std.proofs.Common.{◌≡◌, ◌+◌, length, drop}
use Rattle.vl_lex.specs.Reading.{test_of, run}
use Rattle.vl_lex.proofs.runs.run_length.Given as goal

abbrev pub invariant-loop-i : goal.invariant-loop-i
invariant-loop-i l = l.i + length (run (test_of l.kind) (drop l.i l.text)) ≡ length (run (test_of l.kind) l.text)
