use Rattle.std.proofs.Common.{◌≡◌, ◌++◌}
use Rattle.std.specs.Prelude.{replicate}
use Rattle.fmt_text.proofs.item.push_spaces.Given as goal

abbrev pub invariant-loop-time : goal.invariant-loop-time
invariant-loop-time l = l.printed.items ≡ l.initial.printed.items ++ replicate l.time 32
