use Rattle.std.proofs.Common.{◌≡◌, map, take}
use Rattle.cell_form.specs.Views.{cell_of, bank_of}
use Rattle.cell_form.specs.Cycle.{filled}
use Rattle.cell_eval.proofs.cycle.fill.Given as goal

abbrev pub invariant-loop-number : goal.invariant-loop-number
invariant-loop-number l = bank_of l.bank ≡ filled l.first (take l.number (map cell_of l.cells)) (bank_of l.fn.bank)
