use Rattle.std.proofs.Common.{◌≡◌, ◌++◌, map, take}
use Rattle.fab_join.specs.Banks.{words_of}
use Rattle.fab_join.proofs.bank.push_copies.Given as goal

abbrev pub invariant-loop-words : goal.invariant-loop-words
invariant-loop-words l = map words_of l.mems.items ≡ map words_of l.fn.mems.items ++ map words_of (take l.words-index l.more)
