use Rattle.std.proofs.Common.{◌≡◌}
use Rattle.host_demo.specs.Texts.{script}
use Rattle.host_demo.proofs.script.script_text.Given as goal

abbrev pub invariant-loop-before : goal.invariant-loop-before
invariant-loop-before l = l.text.items ≡ script l.before
