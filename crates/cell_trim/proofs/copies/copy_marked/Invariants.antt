use Rattle.std.proofs.Common.{ℕ, List, map, take}
use Rattle.cell_emit.specs.cell_form.specs.Views.{cell_of}
use Rattle.cell_trim.specs.Marks.{AreMarked}
use Rattle.cell_trim.specs.Copies.{Shows, AreOwed}
use Rattle.cell_trim.proofs.copies.copy_marked.Given as goal

abbrev pub invariant-loop-index : goal.invariant-loop-index
invariant-loop-index l = record {
  shows : Shows l.first l.next l.marks (take l.index (map cell_of l.cells)) l.numbers.items (map cell_of l.kept);
  owed : (slots : List ℕ) → AreMarked l.first (map cell_of l.cells) slots l.marks →
      AreOwed l.first l.next l.index slots l.marks (map cell_of l.cells) l.numbers.items (map cell_of l.kept);
}
