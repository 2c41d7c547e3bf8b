use Rattle.std.proofs.Common.{◌≡◌, None, subst}
use Rattle.fab_core.specs.ten_parcel.specs.declared.parcel.Parcel.{Parcel}
use Rattle.fab_core.specs.fab_model.specs.Points.{ended, Point}
use Rattle.fab_core.specs.Standing.{IsPointOf}
use Rattle.fab_rounds.proofs.Stopping.{may_save, saved_point}
use Rattle.fab_rounds.proofs.Taken.{both_ok}
use Rattle.fab_rounds.proofs.shells.save.Goals as goal

pub save-requires : goal.save-requires
save-requires c = let h = subst (λ (q : Parcel). (p : Point) × IsPointOf q p × (ended p ≡ None)) c.in-Rests.is c.requires in may_save c.in-Rests.tenant h.0 h.1 h.2

pub unreachable-requires : goal.unreachable-requires
unreachable-requires c = (subst (λ (q : Parcel). (p : Point) × IsPointOf q p × (ended p ≡ None)) c.in-Over.is c.requires).1

pub returns : goal.returns
returns c = both_ok c.save.result (λ stands free. λ p h n. saved_point c.in-Rests.tenant p (subst (λ (q : Parcel). IsPointOf q p) c.in-Rests.is h) n c.save.new.self c.args.name c.save.ensures.same free stands) c.save.ensures.stands c.save.ensures.free
