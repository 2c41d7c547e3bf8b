use Rattle.std.proofs.Common.{◌≡◌, ◌≤◌, ◌*◌, ◌^◌, take, sum}
use Rattle.reg_ports.specs.Ports.{word_counts}
use Rattle.reg_ports.proofs.restore.words_of.Given as goal

abbrev pub invariant-loop-port : goal.invariant-loop-port
invariant-loop-port l = record { counted : l.count ≡ sum (word_counts (take l.port-index l.ports)); small : l.count ≤ 2 ^ 32 * l.port-index }
