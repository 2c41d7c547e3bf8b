use Rattle.snap_form.proofs.Loops.{put-next, put-done}
use Rattle.std.proofs.Common.{refl}
use Rattle.snap_form.proofs.writing.put_words.Goals as goal

pub loop-word-preserved : goal.loop-word-preserved
loop-word-preserved c = rw c.in_ok-put_number.ensures (put-next c.args.width _ c.args.words.now c.loop-word.word-index c.loop-word.out.items _ c.loop-word-test.true refl c.loop-word.invariant)

pub returns : goal.returns
returns c = put-done c.args.width c.args.words.now c.loop-word.word-index c.loop-word.out.items _ c.loop-word-test.false c.loop-word.invariant
