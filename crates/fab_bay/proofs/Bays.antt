-- What a bay keeps.
use Rattle.std.proofs.Common.{◌≡◌, List, [], refl, sym, ap, ◌∙◌, subst, false, Result, Ok, Err}
use Rattle.std.specs.Prelude.{OnOk, OnErr}
use Rattle.vl_design.specs.declared.capacity.Cost.{Cost}
use Rattle.fab_core.specs.fab_model.specs.Points.{Point}
use Rattle.fab_core.specs.fab_model.specs.Fabrics.{arrived, Fabric}
use Rattle.fab_core.specs.Standing.{IsFabric, IsPointOf}
use Rattle.fab_core.specs.ten_parcel.specs.declared.parcel.Parcel.{Parcel}
use Rattle.fab_core.specs.fab_model.specs.declared.note.Note.{Note}
use Rattle.fab_core.specs.fab_model.specs.Histories.{replay, AreLinesByFirst, IsLegal}
use Rattle.fab_bay.specs.declared.berth.Berth.{Berth}
use Rattle.fab_bay.specs.declared.noted.NotedCore.{NotedCore}
use Rattle.fab_bay.specs.Berths.{seats, AreBerths, AreSettled, AreWaiters}
use Rattle.fab_bay.specs.Standing.{IsBay, IsNoted}

-- without tenants
abbrev nobody : Cost → Fabric
nobody c = record { capacity = c; residents = []; line = []; holding = false }

-- behind a tenant that is put in line, or isn't
pub put-bay : (A B : Type 0) (r : Result A B) (q : Parcel) (p : Point) (x y : NotedCore) → IsBay x → IsPointOf q p → y.berths ≡ x.berths →
    OnOk r ((f : Fabric) (p : Point) → IsNoted x f → IsPointOf q p → IsNoted y (arrived p f)) → OnErr r ((f : Fabric) → IsNoted x f → IsNoted y f) → IsBay y
put-bay A B (Ok a) q p x y b at berths ok err = record {
  fabric = arrived p b.fabric;
  noted = ok b.fabric p b.noted at;
  settled = subst (λ (bs : List Berth). AreSettled bs b.fabric.residents) (sym (ap (λ v. v.items) berths)) b.settled;
}
put-bay A B (Err e) q p x y b at berths ok err = record {
  fabric = b.fabric;
  noted = err b.fabric b.noted;
  settled = subst (λ (bs : List Berth). AreSettled bs b.fabric.residents) (sym (ap (λ v. v.items) berths)) b.settled;
}
