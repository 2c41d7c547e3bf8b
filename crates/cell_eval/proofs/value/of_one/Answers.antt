use Rattle.std.proofs.Common.{ℕ, ◌<◌, ◌^◌, ◌∙◌, map, sym, subst, rules}
use Rattle.cell_form.specs.Views.{cell_of, bank_of}
use Rattle.cell_eval.proofs.Operands.{one-width}
use Rattle.cell_eval.proofs.value.of_one.Goals as goal

pub inverse-requires-clause-fits : goal.inverse-requires-clause-fits
inverse-requires-clause-fits c =
    let w = rw c.in-Not.is at (one-width c.args.first (bank_of c.args.bank.now) (map cell_of c.args.earlier.now) (cell_of c.args.cell.now) c.args.op c.requires.is c.requires.cell) in
    subst (λ (n : ℕ). c.operand-only.result.value < 2 ^ n) (c.operand-only.ensures.width ∙ sym w) c.operand-only.result.fits

pub returns-in-Neg : goal.returns-in-Neg
returns-in-Neg c =
    let w = rw c.in-Neg.is at (one-width c.args.first (bank_of c.args.bank.now) (map cell_of c.args.earlier.now) (cell_of c.args.cell.now) c.args.op c.requires.is c.requires.cell) in
    search (rules, w)

pub returns-in-Not : goal.returns-in-Not
returns-in-Not c =
    let w = rw c.in-Not.is at (one-width c.args.first (bank_of c.args.bank.now) (map cell_of c.args.earlier.now) (cell_of c.args.cell.now) c.args.op c.requires.is c.requires.cell) in
    search (rules, w)
