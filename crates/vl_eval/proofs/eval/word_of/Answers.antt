use Rattle.std.proofs.Common.{◌∙◌, refl}
use Rattle.vl_eval.specs.Rooms.{names_of, sample_of}
use Rattle.vl_eval.proofs.Readable.{word-small}
use Rattle.vl_eval.proofs.eval.word_of.Goals as goal

pub returns-clause-value : goal.returns-clause-value
returns-clause-value c =
    let small = word-small (names_of c.args.room.now).rows (sample_of c.args.s.now).values c.args.signal c.args.word c.requires.fine in
    c.resize.ensures.value ∙ rw (c.held-own.ensures.width, c.held-own.ensures.value, c.signal_form.ensures.value, small) refl
