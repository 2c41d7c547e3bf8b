use Rattle.std.proofs.Common.{◌≡◌, None, subst}
use Rattle.fab_core.specs.ten_parcel.specs.declared.parcel.Parcel.{Parcel}
use Rattle.fab_core.specs.fab_model.specs.Points.{ended, Point}
use Rattle.fab_core.specs.Standing.{IsPointOf}
use Rattle.fab_rounds.proofs.Stopping.{may_stop, stop_point}
use Rattle.fab_rounds.proofs.shells.stop.Goals as goal

pub stop-requires : goal.stop-requires
stop-requires c = let h = subst (λ (q : Parcel). (p : Point) × IsPointOf q p × (ended p ≡ None)) c.in-Rests.is c.requires in may_stop c.in-Rests.tenant h.0 h.1 h.2

pub unreachable-requires : goal.unreachable-requires
unreachable-requires c = (subst (λ (q : Parcel). (p : Point) × IsPointOf q p × (ended p ≡ None)) c.in-Over.is c.requires).1

pub returns : goal.returns
returns c = λ p h. stop_point c.args.parcel.now c.in-Rests.tenant c.stop.new.self p c.in-Rests.is c.stop.ensures.stopped c.stop.ensures.stands h
