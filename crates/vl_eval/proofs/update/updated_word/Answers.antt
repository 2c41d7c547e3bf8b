use Rattle.std.proofs.Common.{◌∙◌, refl}
use Rattle.vl_eval.specs.Rooms.{names_of}
use Rattle.vl_eval.proofs.Readable.{word-small}
use Rattle.vl_eval.proofs.update.updated_word.Goals as goal

pub returns : goal.returns
returns c =
    let small = word-small (names_of c.args.room.now).rows c.args.values.now c.args.u.signal c.args.u.word c.requires.fine in
    c.placed_at.ensures.value ∙ rw (c.held-old.ensures.width, c.held-old.ensures.value, c.signal_form.ensures.value, small) refl
