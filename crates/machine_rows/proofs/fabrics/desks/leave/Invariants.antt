use Rattle.std.specs.Prelude.{All}
use Rattle.fab_model.specs.ten_parcel.specs.Parcels.{IsParcel}
use Rattle.machine_rows.specs.Desks.{IsAt}
use Rattle.machine_rows.proofs.fabrics.desks.leave.Given as goal

abbrev pub invariant-left : goal.invariant-left
invariant-left g l = IsAt l.wanted l.desk l.seat × All (λ x. IsParcel x.transit.parcel) l.leaving.items
