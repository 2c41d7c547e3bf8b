-- What pieces of a display print (IEEE 1364-2005, clause 17.1.1).
use Rattle.std.specs.Prelude.{ℕ, List, IsSome, ⊤}
use Rattle.vl_design.specs.vl_base.specs.Display.{format_of, letter_text}
use Rattle.fmt_text.specs.declared.piece.Piece.{Piece}
use Rattle.fmt_text.specs.declared.piece.Piece.TheVariants.{Lit, Val}

-- a value's letter, with the 0 before it or without, asks for a format: d, h, x, o, b or s, or c without the 0
abbrev pub IsPiece : Piece → Type 0
IsPiece (Lit bytes) = ⊤
IsPiece (Val letter least value signed) = IsSome (format_of letter least)

-- a text as it stands; what the item of a letter shows of a value
abbrev pub piece_text : Piece → List ℕ
piece_text (Lit bytes) = bytes
piece_text (Val letter least value signed) = letter_text letter least signed value.width value.value
