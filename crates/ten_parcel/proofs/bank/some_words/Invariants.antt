use Rattle.std.proofs.Common.{◌≡◌}
use Rattle.ten_parcel.specs.Lists as b
use Rattle.ten_parcel.proofs.bank.some_words.Given as goal

abbrev pub invariant-loop-number : goal.invariant-loop-number
invariant-loop-number l = l.all.items ≡ b.some_words l.number l.words
