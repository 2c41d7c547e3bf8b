use Rattle.std.proofs.Common.{arith, subst, sym}
use Rattle.fab_model.specs.ten_parcel.specs.declared.tenant.Tenant.{Tenant}
use Rattle.fab_core.specs.Alone.{HasPoint}
use Rattle.fab_core.proofs.Numbered.{parts_more, point_there}
use Rattle.fab_core.proofs.rebuild.joined_anew.Goals as goal

pub add_part-requires : goal.add_part-requires
add_part-requires c = point_there c.args.residents.now c.loop-resident.resident-index c.resident-item.result (omega arith) c.resident-item.is c.requires.residents

pub loop-resident-preserved : goal.loop-resident-preserved
loop-resident-preserved c =
    parts_more c.args.residents.now c.loop-resident.resident-index c.resident-item.result c.loop-resident.anew c.add_part.new.anew (omega arith) c.resident-item.is c.loop-resident.invariant c.in_ok-add_part.ensures

pub add_part-requires-in-loop-tenant : goal.add_part-requires-in-loop-tenant
add_part-requires-in-loop-tenant c =
    subst (λ (t : Tenant). HasPoint t) (sym c.tenant-item.is) (c.requires.line c.loop-tenant.tenant-index c.tenant-item.result (omega arith))
