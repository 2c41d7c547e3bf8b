use Rattle.std.proofs.Common.{ℕ, ◌<◌, ◌^◌, ◌∙◌, map, sym, subst, rules}
use Rattle.cell_form.specs.Views.{cell_of, bank_of}
use Rattle.cell_eval.proofs.Operands.{two-width}
use Rattle.cell_eval.proofs.value.of_two.Goals as goal

pub moved_right-requires-clause-fits : goal.moved_right-requires-clause-fits
moved_right-requires-clause-fits c =
    let w = rw c.in-Shr.is at (two-width c.args.first (bank_of c.args.bank.now) (map cell_of c.args.earlier.now) (cell_of c.args.cell.now) c.args.op c.args.signed c.requires.is c.requires.cell) in
    subst (λ (n : ℕ). c.operand-left.result.value < 2 ^ n) (c.operand-left.ensures.width ∙ sym w) c.operand-left.result.fits

pub returns-in-Add : goal.returns-in-Add
returns-in-Add c =
    let w = rw c.in-Add.is at (two-width c.args.first (bank_of c.args.bank.now) (map cell_of c.args.earlier.now) (cell_of c.args.cell.now) c.args.op c.args.signed c.requires.is c.requires.cell) in
    search (rules, w)

pub returns-in-Sub : goal.returns-in-Sub
returns-in-Sub c =
    let w = rw c.in-Sub.is at (two-width c.args.first (bank_of c.args.bank.now) (map cell_of c.args.earlier.now) (cell_of c.args.cell.now) c.args.op c.args.signed c.requires.is c.requires.cell) in
    search (rules, w)

pub returns-in-Mul : goal.returns-in-Mul
returns-in-Mul c =
    let w = rw c.in-Mul.is at (two-width c.args.first (bank_of c.args.bank.now) (map cell_of c.args.earlier.now) (cell_of c.args.cell.now) c.args.op c.args.signed c.requires.is c.requires.cell) in
    search (rules, w)

pub returns-in-Shl : goal.returns-in-Shl
returns-in-Shl c =
    let w = rw c.in-Shl.is at (two-width c.args.first (bank_of c.args.bank.now) (map cell_of c.args.earlier.now) (cell_of c.args.cell.now) c.args.op c.args.signed c.requires.is c.requires.cell) in
    search (rules, w)

pub returns-in-Shr : goal.returns-in-Shr
returns-in-Shr c =
    let w = rw c.in-Shr.is at (two-width c.args.first (bank_of c.args.bank.now) (map cell_of c.args.earlier.now) (cell_of c.args.cell.now) c.args.op c.args.signed c.requires.is c.requires.cell) in
    search (rules, w)
