use Rattle.std.proofs.Common.{◌≡◌, ◌-◌, replicate}
use Rattle.snap_form.specs.Reading.{words_at}
use Rattle.snap_form.proofs.reading.words_of.Given as goal

abbrev pub invariant-loop : goal.invariant-loop
invariant-loop l = words_at (replicate (l.count - l.counter) l.width) l.words.items l.rest ≡ words_at (replicate l.count l.width) l.initial.words.items l.left
