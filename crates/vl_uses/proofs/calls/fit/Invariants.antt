use Rattle.std.proofs.Common.{◌≡◌, drop, Some}
use Rattle.vl_uses.specs.Calls as spec
use Rattle.vl_uses.proofs.calls.fit.Given as goal

-- the rest fits what it follows just where the whole fits
abbrev pub invariant-loop-argument : goal.invariant-loop-argument
invariant-loop-argument l = spec.fit (Some l.shown) (drop l.argument-index l.arguments) ≡ spec.fit (Some 0) l.arguments
