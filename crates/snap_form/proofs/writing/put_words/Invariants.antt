use Rattle.std.proofs.Common.{◌≡◌, ◌++◌, ◌-◌, length, replicate, drop}
use Rattle.snap_form.specs.Spelling.{words}
use Rattle.snap_form.proofs.writing.put_words.Given as goal

abbrev pub invariant-loop-word : goal.invariant-loop-word
invariant-loop-word l =
    l.out.items ++ words (replicate (length l.words - l.word-index) l.width) (drop l.word-index l.words) ≡ l.initial.out.items ++ words (replicate (length l.words) l.width) l.words
