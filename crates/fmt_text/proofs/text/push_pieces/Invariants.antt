use Rattle.std.proofs.Common.{◌≡◌, ◌++◌, take}
use Rattle.std.specs.List.{flat_map}
use Rattle.fmt_text.specs.Pieces.{piece_text}
use Rattle.fmt_text.proofs.text.push_pieces.Given as goal

abbrev pub invariant-loop-piece : goal.invariant-loop-piece
invariant-loop-piece l = l.printed.items ≡ l.initial.printed.items ++ flat_map piece_text (take l.piece-index l.pieces)
