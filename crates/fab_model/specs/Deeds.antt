-- What is known of a tenant that is put in line, or that leaves (own).
use Rattle.std.specs.Prelude.{Bool, List, Option, Some, None}
use Rattle.ten_core.specs.vl_design.specs.declared.capacity.Cost.{Cost}
use Rattle.ten_core.specs.vl_design.specs.Costs.{saturated_cost}
use Rattle.ten_core.specs.vl_design.specs.Alone as alone
use Rattle.ten_core.specs.vl_design.specs.Cost.{cost}
use Rattle.ten_core.specs.declared.origin.Origin.{Origin}
use Rattle.ten_core.specs.Tenants.{origin_of}
use Rattle.ten_parcel.specs.Parcels.{free_of, is_moved, origin_in}
use Rattle.fab_model.specs.declared.transit.Stay.{Stay}
use Rattle.fab_model.specs.declared.transit.Transit.{Transit}
use Rattle.fab_model.specs.declared.note.Note.{Note}

pub record Deed : Type 0 where
  -- what its run starts from
  pub origin : Origin
  -- the snapshots made besides, and whether the move that stands where it rests is done
  pub free : List alone.FreeSave
  pub moved : Bool
  -- its stays so far, and whether it was a resident where it was last
  pub stays : List Stay
  pub resident : Bool

abbrev pub deed_of : Transit → Deed
deed_of t = record { origin = origin_in t.parcel; free = free_of t.parcel; moved = is_moved t.parcel; stays = t.stays.items; resident = t.resident }

-- what a note tells of its tenant, beside its entry
abbrev pub deed_in : Note → Option Deed
deed_in n = elim n.known [ None ↦ None | Some s ↦ Some (deed_of s.value) ]

-- the run alone that its run is
abbrev pub run_in : Deed → alone.Origin
run_in d = origin_of d.origin

-- what it takes of a fabric, in numbers of 64 bits
abbrev pub cost_of : Deed → Cost
cost_of d = saturated_cost (cost (run_in d).flat)
