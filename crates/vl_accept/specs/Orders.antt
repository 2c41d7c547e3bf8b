-- The order of an unrolled design whose paths have no fault, or why there is none.
use Rattle.std.specs.Prelude.{◌≡◌, ⊤, ◌⊎◌, Result, Ok, Err, Option, Some, None, List, ℕ}
use Rattle.std.specs.declared.alloc.Global.{Global}
use Rattle.std.specs.declared.vec.Vec.{Vec}
use Rattle.vl_check.specs.vl_design.specs.declared.stop.Stop.{Stop}
use Rattle.vl_check.specs.vl_design.specs.Placed.{Design}
use Rattle.vl_check.specs.vl_design.specs.Plainly.{flat}
use Rattle.vl_check.specs.vl_design.specs.Seen.{placed}
use Rattle.vl_check.specs.vl_design.specs.Trees.{flat_of}
use Rattle.vl_check.specs.vl_design.specs.First.{IsFirst}
use Rattle.vl_latch.specs.Faults.{IsPathFault}
use Rattle.cell_level.specs.Levelling.{IsOrder}
use Rattle.vl_accept.specs.declared.accept.Accepted.{Accepted}
use Rattle.vl_accept.specs.declared.fault.Fault.{Fault}
use Rattle.vl_accept.specs.declared.fault.Fault.TheVariants.{Memory}
use Rattle.vl_accept.specs.Stopping.{fault_of}
use Rattle.vl_accept.specs.Accepted.{HasNoLoop, IsLoop}

-- an order, or the combinational loop
abbrev pub Orders : Design → Result (Vec ℕ Global) Fault → Type 0
Orders u (Ok v) = HasNoLoop (flat u) × IsOrder (flat u) v.items
Orders u (Err Memory) = ⊤
Orders u (Err f) = IsLoop u f

-- the first fault of the paths
abbrev pub IsUnassigned : Design → Fault → Type 0
IsUnassigned u f = (s : Stop) × IsFirst (IsPathFault u) (Some s) × (f ≡ fault_of s)

-- what came of an unrolled design
abbrev pub Settles : Design → Result Accepted Fault → Type 0
Settles u (Ok a) = IsFirst (IsPathFault u) None × HasNoLoop (flat u) × (placed a.design ≡ u) × IsOrder (flat_of a.design) a.order.items
Settles u (Err Memory) = ⊤
Settles u (Err f) = IsUnassigned u f ⊎ (IsFirst (IsPathFault u) None × IsLoop u f)
