use Rattle.std.proofs.Common.{◌≡◌, true, drop}
use Rattle.vl_design.specs.Trees.{fun_of}
use Rattle.vl_bits.specs.Seen.{names_seen}
use Rattle.vl_latch.specs.Partly.{HasBit, is_own}
use Rattle.vl_latch.proofs.bodies.has_own.Given as goal

abbrev pub invariant-loop-part : goal.invariant-loop-part
invariant-loop-part l = HasBit l.parts (λ b. is_own (names_seen l.m) (fun_of l.f) b.signal ≡ true) → HasBit (drop l.part-index l.parts) (λ b. is_own (names_seen l.m) (fun_of l.f) b.signal ≡ true)
