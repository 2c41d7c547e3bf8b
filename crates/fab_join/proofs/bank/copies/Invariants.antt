use Rattle.std.proofs.Common.{◌≡◌, map, take}
use Rattle.fab_join.specs.Banks.{words_of}
use Rattle.fab_join.proofs.bank.copies.Given as goal

abbrev pub invariant-loop-words : goal.invariant-loop-words
invariant-loop-words l = map words_of l.all.items ≡ map words_of (take l.words-index l.mems)
