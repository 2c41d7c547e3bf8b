use Rattle.std.proofs.Common.{ℕ, ◌+◌, length, map, refl, sym, arith, subst}
use Rattle.std.specs.List.{AllByRecursion}
use Rattle.std.proofs.lemmas.List.{length-map}
use Rattle.std.proofs.lemmas.Result.{IfOk-weaker}
use Rattle.cell_emit.specs.cell_form.specs.Sound.{IsWrite}
use Rattle.cell_emit.specs.cell_form.specs.Views.{list_of, cell_of}
use Rattle.cell_trim.specs.declared.trim.Trimmed.{Trimmed}
use Rattle.cell_trim.specs.Moves.{number_of, AreMoved}
use Rattle.cell_trim.proofs.Trimming.{Trims, trims-from, trims-first, trims-few, trims-there, trims-sound, trims-values, trims-writes, trims-widths, trims-needed}
use Rattle.cell_trim.proofs.trim.trim.Goals as goal

pub returns : goal.returns
returns c =
    let cells = c.args.cells.now in
    let old = cells.first in
    let next = c.args.first in
    let sets = c.args.sets.now in
    let wanted = c.args.wanted.now in
    let copied = c.in_ok-copied.copied in
    let was = map cell_of cells.cells in
    let trims : (t : Trimmed) →
    AreMoved (number_of old copied.numbers.items (next + length copied.cells)) next (map cell_of copied.cells) sets wanted (list_of t.cells) t.slots.items →
    Trims old next was sets wanted (list_of t.cells) t.slots.items =
    λ t m. trims-from old next c.as_slice-list.result.now cells.cells copied.cells sets wanted c.as_slice.result.now c.in_ok-marks.marks.items
    copied.numbers.items (list_of t.cells) t.slots.items
    c.as_slice-list.ensures c.as_slice.ensures.value c.in_ok-marks.ensures c.in_ok-copied.ensures.shows c.in_ok-copied.ensures.owed m in
    record {
      first = IfOk-weaker c.finish.result _ _ (λ t m. trims-first old next was sets wanted (list_of t.cells) t.slots.items (trims t m)) c.finish.ensures;
      few = IfOk-weaker c.finish.result _ _
          (λ t m.
          let few = trims-few old next was sets wanted (list_of t.cells) t.slots.items (trims t m) in
          omega (arith, few, length-map t.cells.cells cell_of, length-map cells.cells cell_of)) c.finish.ensures;
      there = IfOk-weaker c.finish.result _ _ (λ t m. trims-there old next was sets wanted (list_of t.cells) t.slots.items (trims t m)) c.finish.ensures;
      sound = IfOk-weaker c.finish.result _ _
          (λ t m. λ s h k le.
          let W : ℕ → Type 0 = λ n. AllByRecursion (IsWrite s old n) sets in
          trims-sound old next was sets wanted (list_of t.cells) t.slots.items (trims t m) s h (subst W (sym (length-map cells.cells cell_of)) k)
          (omega (arith, le, length-map t.cells.cells cell_of))) c.finish.ensures;
      values = IfOk-weaker c.finish.result _ _ (λ t m. λ b. trims-values old next was sets wanted (list_of t.cells) t.slots.items (trims t m) b
          (list_of cells) refl refl) c.finish.ensures;
      writes = IfOk-weaker c.finish.result _ _ (λ t m. trims-writes old next was sets wanted (list_of t.cells) t.slots.items (trims t m)) c.finish.ensures;
      widths = IfOk-weaker c.finish.result _ _ (λ t m. λ most h. trims-widths old next was sets wanted (list_of t.cells) t.slots.items (trims t m) most
          (list_of cells) refl refl h) c.finish.ensures;
      needed = IfOk-weaker c.finish.result _ _
          (λ t m. λ i lt. trims-needed old next was sets wanted (list_of t.cells) t.slots.items (trims t m) i
          (omega (arith, lt, length-map t.cells.cells cell_of))) c.finish.ensures;
    }
