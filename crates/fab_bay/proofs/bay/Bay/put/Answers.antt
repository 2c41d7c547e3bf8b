use Rattle.std.proofs.Common.{sym, subst}
use Rattle.fab_core.specs.ten_parcel.specs.Parcels.{number_of, origin_in}
use Rattle.fab_core.specs.fab_model.specs.Origins.{StartsFrom}
use Rattle.fab_bay.specs.declared.noted.NotedCore.{NotedCore}
use Rattle.fab_bay.specs.declared.leaving.Receipt.{Receipt}
use Rattle.fab_bay.specs.declared.leaving.Refused.{Refused}
use Rattle.fab_bay.proofs.Bays.{put-bay}
use Rattle.fab_bay.proofs.Owning.{owned_put}
use Rattle.fab_bay.proofs.bay.Bay.put.Goals as goal

pub invariant_of-self : goal.invariant_of-self
invariant_of-self c = (
  put-bay Receipt Refused c.put.result c.args.transit.parcel c.requires.transit.0 c.self.inside.noted c.put.new.self c.self.invariant.0 c.requires.transit.1 c.put.ensures.berths
      c.put.ensures.arrived c.put.ensures.same,
  owned_put c.args.number c.self.inside.noted c.put.new.self c.args.transit c.put.result c.put.ensures.put c.put.ensures.notes c.put.ensures.label
      (subst (λ (x : NotedCore). StartsFrom x.label.origins (number_of c.args.transit.parcel) (origin_in c.args.transit.parcel)) (sym c.self.view_is) c.requires.own) c.self.invariant.1,
)
