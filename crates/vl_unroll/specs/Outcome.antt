-- What came of an unrolling (IEEE 1364-2005, clause 9.6; the limits are own).
use Rattle.std.specs.Prelude.{◌≡◌, ⊤, Result, Ok, Err, Some, None}
use Rattle.vl_design.specs.declared.design.Design.{Design}
use Rattle.vl_design.specs.declared.stop.Stop.{Stop}
use Rattle.vl_design.specs.declared.stop.Stop.TheVariants.{Memory}
use Rattle.vl_design.specs.Placed as p
use Rattle.vl_design.specs.Seen.{placed}
use Rattle.vl_loops.specs.Limits.{first_limit}
use Rattle.vl_loops.specs.Placed.{unrolled_placed}

-- the design with its loops unrolled, or the first limit that it passes; want of memory says nothing
abbrev pub Unrolls : p.Design → Result Design Stop → Type 0
Unrolls d (Ok u) = (first_limit d ≡ None) × (placed u ≡ unrolled_placed d)
Unrolls d (Err Memory) = ⊤
Unrolls d (Err stop) = first_limit d ≡ Some stop
