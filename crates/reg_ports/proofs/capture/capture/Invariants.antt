use Rattle.std.proofs.Common.{◌≡◌, take}
use Rattle.cell_form.specs.Views.{bank_of}
use Rattle.reg_ports.specs.Ports.{captured}
use Rattle.reg_ports.proofs.capture.capture.Given as goal

abbrev pub invariant-loop-port : goal.invariant-loop-port
invariant-loop-port l = l.words.items ≡ captured (take l.port-index l.port-items) (bank_of l.bank)
