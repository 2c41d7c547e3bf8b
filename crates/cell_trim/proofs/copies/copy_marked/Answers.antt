use Rattle.std.proofs.Common.{◌≡◌, ℕ, ◌+◌, ◌<◌, List, length, map, refl, ap, arith, subst}
use Rattle.cell_emit.specs.cell_form.specs.declared.cell.Cell.{Cell}
use Rattle.cell_emit.specs.cell_form.specs.Views.{cell_of}
use Rattle.cell_trim.specs.Marks.{on}
use Rattle.cell_trim.specs.Copies.{AreOwed}
use Rattle.cell_trim.proofs.Stepping.{shows-step, owed-step}
use Rattle.cell_trim.proofs.copies.copy_marked.Goals as goal

pub loop-index-preserved : goal.loop-index-preserved
loop-index-preserved c =
    let cells = c.args.cells.now in
    let marks = c.args.marks.now in
    let first = c.args.first in
    let next = c.args.next in
    let i = c.loop-index.index in
    let x = c.index-cells-index.result in
    let lt : i < length cells = omega arith in
    let numbers = c.loop-index.numbers.items in
    let more = c.put.new.numbers.items in
    let kept = c.loop-index.kept in
    let new = c.put.new.kept in
    let slot : ℕ = next + length c.as_slice.result.now in
    let e : slot ≡ next + length kept = ap (λ (xs : List Cell). next + length xs) c.as_slice.ensures in
    record {
      shows = shows-step cells i x lt c.index-cells-index.is first next marks slot (on marks i) numbers more kept new refl e c.in_ok-put.ensures.numbers
          c.in_ok-put.ensures.kept
          c.loop-index.invariant.shows c.requires.closed;
      owed = λ slots needs. owed-step cells i x lt c.index-cells-index.is first next marks slot (on marks i) numbers more kept new refl e
          c.in_ok-put.ensures.numbers c.in_ok-put.ensures.kept
          c.loop-index.invariant.shows slots needs (c.loop-index.invariant.owed slots needs);
    }

pub returns-clause-owed : goal.returns-clause-owed
returns-clause-owed c = λ slots needs.
    let cells = c.args.cells.now in
    let e : c.loop-index.index ≡ length cells = omega arith in
    let F : ℕ → Type 0 = λ n. AreOwed c.args.first c.args.next n slots c.args.marks.now (map cell_of cells) c.loop-index.numbers.items
    (map cell_of c.loop-index.kept) in
    subst F e (c.loop-index.invariant.owed slots needs)
