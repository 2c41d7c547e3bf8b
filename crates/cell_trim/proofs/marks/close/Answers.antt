use Rattle.std.proofs.Common.{◌≡◌, ℕ, ◌+◌, ◌-◌, ◌<◌, true, false, List, length, map, sym, ap, ◌∙◌, arith, subst}
use Rattle.std.proofs.lemmas.List.{get_or_read}
use Rattle.cell_emit.specs.cell_form.specs.declared.cell.Cell.{Cell}
use Rattle.cell_emit.specs.cell_form.specs.Views.{cell_of}
use Rattle.cell_trim.specs.Marks.{on, Marked, Closes}
use Rattle.cell_trim.proofs.Marking.{closes-with}
use Rattle.cell_trim.proofs.Stepping.{args-here}
use Rattle.cell_trim.proofs.marks.close.Goals as goal

pub loop-index-preserved-then-index : goal.loop-index-preserved-then-index
loop-index-preserved-then-index c =
    let cells = c.args.cells.now in
    let marks = c.loop-index.marks.items in
    let new = c.mark_all.new.marks.items in
    let i : ℕ = c.loop-index.index - 1 in
    let x = c.index-cells-index.result in
    let lt : i < length cells = omega arith in
    let within : i < length marks = omega (arith, c.loop-index.invariant.long) in
    let up : c.loop-index.index ≡ i + 1 = omega arith in
    let here : on marks i ≡ true = sym (get_or_read marks i _ within c.index.ensures false) ∙ c.if-index.true in
    let F : List ℕ → Type 0 = λ ys. Marked c.args.first i ys marks new in
    let G : ℕ → Type 0 = λ n. Closes c.args.first n (map cell_of cells) c.args.marks.now.items marks in
    closes-with c.args.first i (map cell_of cells) c.args.marks.now.items marks new here (subst G up c.loop-index.invariant)
    (subst F (c.as_slice.ensures ∙ ap (λ (y : Cell). (cell_of y).args) (sym c.index-cells-index.is) ∙ sym (args-here cells i x lt c.index-cells-index.is))
    c.mark_all.ensures)
