-- Laws that several crates use.
use Rattle.std.proofs.Common.{arith, inl, inr, ℕ, ◌≤◌}
use Rattle.fab_io.specs.Outside.{HasRisen}

pub risen-before : (x y z : ℕ) → x ≤ y → HasRisen y z → HasRisen x z
risen-before x y z h (inl r) = inl (omega (arith, h, r))
risen-before x y z h (inr r) = inr r
