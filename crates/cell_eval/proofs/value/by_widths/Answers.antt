use Rattle.std.proofs.Common.{◌∙◌, map, sym}
use Rattle.cell_form.specs.Views.{cell_of, bank_of}
use Rattle.cell_eval.proofs.Operands.{two-widths}
use Rattle.cell_eval.proofs.value.by_widths.Goals as goal

pub binary-requires : goal.binary-requires
binary-requires c = λ n.
    let same = two-widths c.args.first (bank_of c.args.bank.now) (map cell_of c.args.earlier.now) (cell_of c.args.cell.now) c.args.op c.args.signed c.requires.is c.requires.cell n in
    c.operand-left.ensures.width ∙ same ∙ sym c.operand-right.ensures.width
