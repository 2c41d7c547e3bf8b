use Rattle.trap_runtime.proofs.Copying.{Copied}
use Rattle.trap_runtime.proofs.memory.replace.Given as goal

abbrev pub invariant-loop-number : goal.invariant-loop-number
invariant-loop-number l = Copied l.kept l.words.items l.number
