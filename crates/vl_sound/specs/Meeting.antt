-- What came of a flattening and of an elaboration, beside what is defined.
use Rattle.std.specs.Prelude.{◌≡◌, Result, Ok, Err, Some, None}
use Rattle.vl_flat.specs.vl_tree.specs.declared.source_tree.Source.{Source}
use Rattle.vl_names.specs.vl_scope.specs.declared.fault.Fault.{Fault}
use Rattle.vl_names.specs.vl_scope.specs.Faults.{IsFirst}
use Rattle.vl_names.specs.NameFaults.{IsNameFault}
use Rattle.vl_names.specs.declared.names.NamesFault.{NamesFault}
use Rattle.vl_names.specs.declared.names.NamesFault.TheVariants as n
use Rattle.vl_flat.specs.vl_design.specs.declared.design.Design.{Design}
use Rattle.vl_flat.specs.vl_design.specs.declared.stop.Stop.{Stop}
use Rattle.vl_flat.specs.vl_design.specs.declared.stop.Stop.TheVariants.{Construct, Limit, Memory}
use Rattle.vl_flat.specs.vl_design.specs.Placed as p
use Rattle.vl_flat.specs.vl_design.specs.Seen.{placed}
use Rattle.vl_flat.specs.Outcome.{flattened}

-- the design, or the first fault; want of memory says nothing
abbrev pub Meets : Result Design Stop → Result p.Design Stop → Type 0
Meets (Ok d) r = r ≡ Ok (placed d)
Meets (Err (Construct at n)) r = r ≡ Err (Construct at n)
Meets (Err (Limit at n)) r = r ≡ Err (Limit at n)
Meets (Err Memory) r = Unit {0}

-- the elaboration of a source (IEEE 1364-2005, clause 12): the first fault of its names, or else its flat design or the first
-- fault of that
pub data IsElaboration (s : Source) : Result p.Design Stop → Type 0 where
  misnamed : {f : Fault} → IsFirst (IsNameFault s) (Some f) → IsElaboration s (Err (Construct f.place f.construct))
  named : IsFirst (IsNameFault s) None → IsElaboration s (flattened s)

-- what came of an elaboration; want of memory says nothing
abbrev pub Elaborates : Source → Result Design Stop → Type 0
Elaborates s (Ok d) = IsElaboration s (Ok (placed d))
Elaborates s (Err (Construct at n)) = IsElaboration s (Err (Construct at n))
Elaborates s (Err (Limit at n)) = IsElaboration s (Err (Limit at n))
Elaborates s (Err Memory) = Unit {0}

-- why a flattening stops at a fault of names
abbrev pub stop_of : NamesFault → Stop
stop_of (n.Construct at k) = Construct at k
stop_of n.Memory = Memory
