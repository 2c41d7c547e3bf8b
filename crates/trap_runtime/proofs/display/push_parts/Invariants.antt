use Rattle.std.proofs.Common.{drop}
use Rattle.cell_form.specs.Views.{bank_of}
use Rattle.trap_runtime.proofs.Displaying.{Printing}
use Rattle.trap_runtime.proofs.display.push_parts.Given as goal

abbrev pub invariant-loop-part : goal.invariant-loop-part
invariant-loop-part l = Printing (bank_of l.bank) (drop l.part-index l.parts) (drop l.next l.slots) l.initial.printed.items l.printed.items l.parts l.slots
