use Rattle.reg_ports.proofs.Loops.{Checked}
use Rattle.reg_ports.proofs.restore.first_wide.Given as goal

abbrev pub invariant-loop-port : goal.invariant-loop-port
invariant-loop-port l = Checked l.ports l.words l.port-index l.before l.left
