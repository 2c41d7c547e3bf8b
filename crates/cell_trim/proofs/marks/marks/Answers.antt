use Rattle.std.proofs.Common.{ℕ, length, map, sym, ◌∙◌, subst}
use Rattle.std.specs.List.{flat_map}
use Rattle.std.proofs.lemmas.List.{length-map}
use Rattle.cell_emit.specs.cell_form.specs.Views.{cell_of}
use Rattle.cell_trim.specs.Marks.{Marked}
use Rattle.cell_trim.specs.Needs.{sources, roots}
use Rattle.cell_trim.proofs.Marking.{marked-then, are-marked}
use Rattle.cell_trim.proofs.marks.marks.Goals as goal

pub returns : goal.returns
returns c =
    let cells = c.args.cells.now in
    let sets = c.args.sets.now in
    let wanted = c.args.wanted.now in
    let off = c.in_ok-marks.marks.items in
    let some = c.mark_writes.new.marks.items in
    let all = c.mark_all.new.marks.items in
    let F : ℕ → Type 0 = λ n. Marked c.args.first n (roots sets wanted) off all in
    are-marked c.args.first (map cell_of cells) (roots sets wanted) off all c.close.new.marks.items
    (c.in_ok-marks.ensures.long ∙ sym (length-map cells cell_of)) c.in_ok-marks.ensures.off
    (subst F (sym (length-map cells cell_of))
    (marked-then c.args.first (length cells) (flat_map sources sets) wanted off some all c.mark_writes.ensures c.mark_all.ensures))
    c.close.ensures
