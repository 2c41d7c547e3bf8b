use Rattle.std.proofs.Common.{◌≡◌, ◌++◌, take, drop}
use Rattle.host_text.specs.Words.{uncommented}
use Rattle.host_text.proofs.words.uncommented.Given as goal

-- the front, and what is left of the rest
abbrev pub invariant-loop-i : goal.invariant-loop-i
invariant-loop-i l = uncommented l.text ≡ take l.i l.text ++ uncommented (drop l.i l.text)
