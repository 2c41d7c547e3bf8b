-- Designs that are accepted, and the first fault of one that isn't: in what it uses, in its limits, on its paths, or a
-- combinational loop (own; IEEE 1364-2005, clauses 4.6, 6.1, 9.2, 9.6, 9.7 and 10.4).
use Rattle.std.specs.Prelude.{◌≡◌, ℕ, ◌<◌, List, [], ⊤, Result, Ok, Err, Option, Some, None, slice_get}
use Rattle.vl_check.specs.vl_design.specs.declared.stop.Stop.{Stop}
use Rattle.vl_check.specs.vl_design.specs.Placed.{Design, Process}
use Rattle.vl_check.specs.vl_design.specs.Plainly.{flat}
use Rattle.vl_check.specs.vl_design.specs.Seen.{placed}
use Rattle.vl_check.specs.vl_design.specs.Syntax.{Flat}
use Rattle.vl_check.specs.vl_design.specs.Trees.{flat_of}
use Rattle.vl_unroll.specs.vl_loops.specs.Limits.{first_limit}
use Rattle.vl_unroll.specs.vl_loops.specs.Placed.{unrolled_placed}
use Rattle.vl_check.specs.vl_design.specs.First.{IsFirst}
use Rattle.vl_runs.specs.vl_paths.specs.Graph.{Edge}
use Rattle.vl_check.specs.Uses.{IsUseFault}
use Rattle.vl_latch.specs.Faults.{IsPathFault}
use Rattle.cell_level.specs.Cycles.{IsCycle, IsOnCycle}
use Rattle.cell_level.specs.Levelling.{IsOrder}
use Rattle.vl_accept.specs.declared.accept.Accepted.{Accepted}
use Rattle.vl_accept.specs.declared.fault.Fault.{Fault}
use Rattle.vl_accept.specs.declared.fault.Fault.TheVariants.{Construct, Limit, Loop, Memory}
use Rattle.vl_accept.specs.Stopping.{fault_of}

-- no process lies on a combinational loop
abbrev pub HasNoLoop : Flat → Type 0
HasNoLoop d = (p : ℕ) → IsOnCycle (Edge d) p → ⊥

-- the process of the number p lies on one, and none below it does
pub record IsLowest (d : Flat) (p : ℕ) : Type 0 where
  pub cyclic : IsOnCycle (Edge d) p
  pub lowest : (q : ℕ) → q < p → IsOnCycle (Edge d) q → ⊥

-- the fault of the lowest process on a combinational loop, and such a loop, from that process on: each drives a bit that the next reads, the last one a
-- bit that the first reads, and none comes twice
pub record IsLoop (d : Design) (f : Fault) : Type 0 where
  pub number : ℕ
  pub process : Process
  pub cycle : List ℕ
  pub there : slice_get d.processes number ≡ Some process
  pub lowest : IsLowest (flat d) number
  pub is_cycle : IsCycle (Edge (flat d)) number cycle
  pub place : f ≡ Loop process.place cycle

-- a fault, whichever loop it shows
abbrev pub but_cycle : Fault → Fault
but_cycle (Loop place cycle) = Loop place []
but_cycle (Construct place number) = Construct place number
but_cycle (Limit place number) = Limit place number
but_cycle Memory = Memory

-- it uses nothing in a way that is refused, and passes no limit; with its loops unrolled, each bit is assigned on every path
-- and before it is read, and there is no combinational loop
pub record IsAccepted (d : Design) : Type 0 where
  pub uses : IsFirst (IsUseFault d) None
  pub limits : first_limit d ≡ None
  pub paths : IsFirst (IsPathFault (unrolled_placed d)) None
  pub loops : HasNoLoop (flat (unrolled_placed d))

-- the first of what it uses that is refused; else the first limit that it passes; else, with its loops unrolled, the first fault
-- of its paths; else the combinational loop
pub data IsRefused (d : Design) (f : Fault) : Type 0 where
  misused : {s : Stop} → IsFirst (IsUseFault d) (Some s) → f ≡ fault_of s → IsRefused d f
  outgrown : {s : Stop} → IsFirst (IsUseFault d) None → first_limit d ≡ Some s → f ≡ fault_of s → IsRefused d f
  unassigned : {s : Stop} → IsFirst (IsUseFault d) None → first_limit d ≡ None → IsFirst (IsPathFault (unrolled_placed d)) (Some s) → f ≡ fault_of s → IsRefused d f
  looped : IsFirst (IsUseFault d) None → first_limit d ≡ None → IsFirst (IsPathFault (unrolled_placed d)) None → IsLoop (unrolled_placed d) f → IsRefused d f

-- what came of it: the design with its loops unrolled, and the order of its processes
pub record Stands (d : Design) (a : Accepted) : Type 0 where
  pub accepted : IsAccepted d
  pub design : placed a.design ≡ unrolled_placed d
  pub order : IsOrder (flat_of a.design) a.order.items

abbrev pub Accepts : Design → Result Accepted Fault → Type 0
Accepts d (Ok a) = Stands d a
Accepts d (Err Memory) = ⊤
Accepts d (Err f) = IsRefused d f
