use Rattle.std.proofs.Common.{◌≡◌, ◌∙◌, ap, sym, subst}
use Rattle.ten_parcel.specs.declared.parcel.Parcel.{Parcel}
use Rattle.ten_parcel.specs.Parcels.{cost_of, IsParcel}
use Rattle.ten_parcel.proofs.parcel.Parcel.cost.Goals as goal

pub returns-in-Rests : goal.returns-in-Rests
returns-in-Rests c =
    subst (λ (p : Parcel). IsParcel p → c.deref.result.now.image.cost ≡ cost_of p) (sym c.in-Rests.is) (λ s. ap (λ x. x.image.cost) c.deref.ensures ∙ s.on.at.image.costs)

pub returns-in-Over : goal.returns-in-Over
returns-in-Over c =
    subst (λ (p : Parcel). IsParcel p → c.deref-in-Over.result.now.image.cost ≡ cost_of p) (sym c.in-Over.is) (λ s. ap (λ x. x.image.cost) c.deref-in-Over.ensures ∙ s.can.begins.image.costs)
