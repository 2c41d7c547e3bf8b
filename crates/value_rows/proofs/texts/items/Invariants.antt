use Rattle.std.proofs.Common.{All}
use Rattle.fmt_text.specs.Pieces.{IsPiece}
use Rattle.value_rows.proofs.texts.items.Given as goal

abbrev pub invariant-loop-letter : goal.invariant-loop-letter
invariant-loop-letter l = All IsPiece l.pieces.items
