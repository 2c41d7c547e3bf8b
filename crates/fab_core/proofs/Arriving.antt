-- Parcels at points, and a tenant that is last in the line.
use Rattle.std.proofs.Common.{◌≡◌, ◌+◌, List, [], ◌∷◌, ◌++◌, ap, sym, ◌∙◌, subst, true, false}
use Rattle.vl_design.specs.declared.capacity.Cost.{Cost}
use Rattle.vl_design.specs.Costs.{saturated_cost, Fits}
use Rattle.vl_design.specs.Alone as alone
use Rattle.vl_design.specs.Cost.{cost}
use Rattle.ten_core.specs.cell_form.specs.Views.{bank_of}
use Rattle.fab_model.specs.ten_parcel.specs.declared.parcel.Parcel.{Parcel}
use Rattle.fab_model.specs.ten_parcel.specs.declared.parcel.Parcel.TheVariants as parcel
use Rattle.fab_model.specs.ten_parcel.specs.declared.tenant.Tenant.{Tenant}
use Rattle.fab_model.specs.ten_parcel.specs.Parcels as parcels
use Rattle.fab_model.specs.ten_parcel.specs.Parcels.{number_of, IsParcel, IsTenant}
use Rattle.fab_model.specs.Points.{cost_of, Point}
use Rattle.fab_model.specs.Fabrics.{arrived, nothing, within, Fabric, AreOnce}
use Rattle.fab_core.specs.declared.cores.FabCore.{FabCore}
use Rattle.fab_core.specs.Standing.{AreStanding, AreWaiting, ArePartsApart, IsAtRest, IsFabric, IsPointOf}
use Rattle.fab_core.proofs.Costs.{not_within, nothing_plus, within_from}
use Rattle.fab_core.proofs.Lists.{waiting_more}
use Rattle.fab_core.proofs.Points.{run-by}
use Rattle.fab_core.proofs.Resting.{rests_from}

pub parcel_tenant : (x : Parcel) (p : Point) → IsPointOf x p → IsTenant x
parcel_tenant (parcel.Rests t) p h = tt
parcel_tenant (parcel.Over x) p h = absurd h

pub parcel_is : (x : Parcel) (p : Point) → IsPointOf x p → IsParcel x
parcel_is (parcel.Rests t) p h = record { acts = p.acts; stage = p.stage; on = h.point.stands; rests = rests_from t.shell (bank_of t.bank) p h.point h.rests }
parcel_is (parcel.Over x) p h = absurd h

pub parcel_cost : (x : Parcel) (p : Point) → IsPointOf x p → parcels.cost_of x ≡ cost_of p
parcel_cost (parcel.Rests t) p h = ap (λ (o : alone.Origin). saturated_cost (cost o.flat)) (run-by h.point)
parcel_cost (parcel.Over x) p h = absurd h

pub parcel_number : (x : Parcel) (p : Point) → IsPointOf x p → number_of x ≡ p.number
parcel_number (parcel.Rests t) p h = h.point.number
parcel_number (parcel.Over x) p h = absurd h

pub parcel_rests : (x : Parcel) (t : Tenant) (p : Point) → x ≡ parcel.Rests t → IsPointOf x p → IsAtRest t p
parcel_rests x t p e h = subst (λ (y : Parcel). IsPointOf y p) e h

-- what a test of what fits beside nothing says
pub within_alone : (m c : Cost) → Fits nothing m c → within m c ≡ true
within_alone m c h = ap (λ (x : Cost). within x c) (sym (nothing_plus m)) ∙ within_from nothing m c h

pub without_room : (m c : Cost) → (Fits nothing m c → ⊥) → within m c ≡ false
without_room m c h = ap (λ (x : Cost). within x c) (sym (nothing_plus m)) ∙ not_within nothing m c h

-- a core with one more in its line
pub record IsLonger (x : FabCore) (t : Tenant) (y : FabCore) : Type 0 where
  pub capacity : y.capacity ≡ x.capacity
  pub used : y.used ≡ x.used
  pub holding : y.holding ≡ x.holding
  pub residents : y.residents ≡ x.residents
  pub joined : y.joined ≡ x.joined
  pub line : y.line.items ≡ x.line.items ++ t ∷ []

pub arrived_fabric : (x y : FabCore) (f : Fabric) (t : Tenant) (p : Point) → IsFabric x f → IsAtRest t p → IsLonger x t y → AreOnce (f.residents ++ (f.line ++ p ∷ [])) → IsFabric y (arrived p f)
arrived_fabric x y f t p h rest w once = record {
  capacity = w.capacity ∙ h.capacity;
  used = w.used ∙ h.used;
  fits = h.fits;
  holding = w.holding ∙ h.holding;
  apart = subst (λ r. ArePartsApart r.items) (sym w.residents) h.apart;
  once = once;
  residents = subst (λ j. AreStanding j y.residents.items f.residents) (sym w.joined) (subst (λ r. AreStanding x.joined r.items f.residents) (sym w.residents) h.residents);
  line = subst (λ (ts : List Tenant). AreWaiting ts (f.line ++ p ∷ [])) (sym w.line) (waiting_more x.line.items f.line t p h.line rest);
}
