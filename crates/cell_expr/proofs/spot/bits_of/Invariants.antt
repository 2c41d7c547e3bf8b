use Rattle.std.proofs.Common.{◌≡◌, ◌+◌, drop}
use Rattle.cell_expr.specs.Spots as sp
use Rattle.cell_expr.proofs.spot.bits_of.Given as goal

abbrev pub invariant-loop-spot : goal.invariant-loop-spot
invariant-loop-spot l = l.bits + sp.bits_of (drop l.spot-index l.spots) ≡ sp.bits_of l.spots
