use Rattle.std.proofs.Common.{◌≡◌, drop, map}
use Rattle.vl_check.specs.Saves.{is_given}
use Rattle.vl_check.specs.SeenOfSaves.{save_of}
use Rattle.vl_check.proofs.saves.is_given.Given as goal

abbrev pub invariant-loop-c : goal.invariant-loop-c
invariant-loop-c l = is_given (map save_of (drop l.c-index l.calls)) (save_of l.call) ≡ is_given (map save_of l.calls) (save_of l.call)
