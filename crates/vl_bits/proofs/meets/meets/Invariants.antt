use Rattle.std.proofs.Common.{drop}
use Rattle.vl_bits.specs.SeenOfDrivers.{HasBit, Met}
use Rattle.vl_bits.proofs.meets.meets.Given as goal

abbrev pub invariant-loop-part : goal.invariant-loop-part
invariant-loop-part l = HasBit l.parts (Met l.signals l.known.items) → HasBit (drop l.part-index l.parts) (Met l.signals l.known.items)
