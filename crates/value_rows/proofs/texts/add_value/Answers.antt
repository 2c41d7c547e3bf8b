use Rattle.std.proofs.lemmas.List.Elements.{All-push}
use Rattle.fmt_text.specs.Pieces.{IsPiece}
use Rattle.value_rows.proofs.texts.add_value.Goals as goal

pub returns : goal.returns
returns c =
    rw c.in_ok-push.ensures.items (All-push IsPiece c.args.pieces.now.items _ c.requires.pieces c.requires.item)
