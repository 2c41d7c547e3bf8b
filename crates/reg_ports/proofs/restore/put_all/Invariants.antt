use Rattle.cell_form.specs.Views.{bank_of}
use Rattle.reg_ports.proofs.Loops.{Put}
use Rattle.reg_ports.proofs.restore.put_all.Given as goal

abbrev pub invariant-loop-port : goal.invariant-loop-port
invariant-loop-port l = Put l.ports l.words (bank_of l.fn.bank) l.port-index l.left (bank_of l.bank)
