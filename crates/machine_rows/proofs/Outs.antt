-- Who comes out of a desk is at rest.
use Rattle.std.proofs.Common.{◌≡◌, ℕ, List, [], ◌∷◌, Result, Ok, Err}
use Rattle.std.specs.Prelude.{All, IfOk}
use Rattle.fab_model.specs.ten_parcel.specs.declared.parcel.Parcel.{Parcel}
use Rattle.fab_model.specs.ten_parcel.specs.Parcels.{IsParcel, IsTenant}
use Rattle.fab_model.specs.Points.{Point}
use Rattle.fab_core.specs.Standing.{IsPointOf}
use Rattle.fab_model.specs.declared.transit.Transit.{Transit}
use Rattle.fab_desk.specs.fab_bay.specs.declared.leaving.Found.{Found}
use Rattle.fab_desk.specs.fab_bay.specs.declared.leaving.Found.TheVariants.{Here, Absent, Short}
use Rattle.fab_desk.specs.fab_bay.specs.declared.leaving.Taken.{Taken}
use Rattle.fab_desk.specs.fab_bay.specs.declared.leaving.Turn.{Turn}
use Rattle.fab_desk.specs.fab_bay.specs.declared.noted.Label.{Label}
use Rattle.fab_desk.specs.fab_bay.specs.declared.noted.NotedCore.{NotedCore}
use Rattle.fab_desk.specs.fab_bay.specs.Standing.{IsBay}
use Rattle.fab_desk.specs.fab_bay.specs.Taking.{IsFound}
use Rattle.fab_desk.specs.fab_bay.specs.Ways.{AreOut}
use Rattle.fab_desk.specs.Desks.{DeskView, DidTake, DidTurn}
use Rattle.machine_rows.specs.Desks.{IsOut}

module _ (tell : (q : Parcel) (p : Point) → IsPointOf q p → IsParcel q × IsTenant q) where
  pub turned_out : {A : Type 0} (label : Label) (most : ℕ) (v w : DeskView) (r : Result Turn A) → IfOk r (λ t. DidTurn label most v w t) → IfOk r (λ t. All (λ l. IsParcel l.transit.parcel) t.leaving.items)
  turned_out label most v w (Ok t) d = λ k l lt. let why = d.turned.whys k l lt in (tell _ _ why.1).0
  turned_out label most v w (Err e) d = tt

  out-there : (t : Transit) (ps : List Point) → AreOut (t ∷ []) ps → IsParcel t.parcel
  out-there t [] h = absurd h
  out-there t (p ∷ ps) h = (tell t.parcel p h.0).0

  out-found : (number tenant : ℕ) (x y : NotedCore) (t : Taken) (f : Found) → IsBay x → IsFound number tenant x y t f → IsOut f
  out-found number tenant x y t (Here out) b d = out-there out _ (d.1.goes.leads b.fabric [] b.noted tt).1
  out-found number tenant x y t Absent b d = tt
  out-found number tenant x y t Short b d = tt

  pub taken_out : {A : Type 0} (label : Label) (tenant : ℕ) (v w : DeskView) (r : Result Taken A) → IfOk r (λ t. DidTake label tenant v w t) → IfOk r (λ t. IsOut t.found)
  taken_out label tenant v w (Ok t) d = out-found v.low tenant d.before d.after t t.found d.found.bay d.taken.1
  taken_out label tenant v w (Err e) d = tt
