use Rattle.cell_form.specs.Views.{bank_of}
use Rattle.cell_eval.proofs.Filling.{Written}
use Rattle.cell_eval.proofs.cycle.write_all.Given as goal

abbrev pub invariant-loop-number : goal.invariant-loop-number
invariant-loop-number l = Written l.sets l.number (bank_of l.fn.bank) (bank_of l.bank)
