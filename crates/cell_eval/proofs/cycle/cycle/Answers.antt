use Rattle.std.proofs.Common.{List, map, ap, ◌∙◌}
use Rattle.std.specs.Prelude.{slice_index}
use Rattle.cell_form.specs.declared.cell.Cell.{Cell}
use Rattle.cell_form.specs.declared.cell.Write.{Write}
use Rattle.cell_form.specs.Views.{cell_of, list_of, bank_of}
use Rattle.cell_form.specs.Cycle.{filled, written}
use Rattle.cell_eval.proofs.Filling.{cycle-is}
use Rattle.cell_eval.proofs.cycle.cycle.Goals as goal

pub returns : goal.returns
returns c =
    let b = bank_of c.args.bank.now in
    let mid = bank_of c.fill.new.bank in
    cycle-is (list_of c.args.cells.now) b c.requires mid (bank_of c.write_all.new.bank)
    (c.fill.ensures ∙ ap (λ (xs : List Cell). filled c.args.cells.now.first (map cell_of xs) b) c.as_slice.ensures)
    (c.write_all.ensures ∙ ap (λ (xs : List Write). written (slice_index mid.slots) xs mid) c.as_slice-2.ensures)
