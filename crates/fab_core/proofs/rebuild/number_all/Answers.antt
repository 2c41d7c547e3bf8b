use Rattle.std.proofs.Common.{◌<◌, length, get_or, arith, refl, ◌∙◌}
use Rattle.fab_core.specs.declared.resident.Resident.{Resident}
use Rattle.fab_core.proofs.Numbered.{numbers_set, tenants_set}
use Rattle.fab_core.proofs.rebuild.number_all.Goals as goal

pub loop-place-preserved : goal.loop-place-preserved
loop-place-preserved c =
    let rs = c.loop-place.residents in
    let i = c.loop-place.place in
    let d : Resident = c.index-residents-place.result in
    let lt : i < length rs = omega arith in
    let new : Resident = record { tenant = (get_or rs i d).tenant; part = i } in
    record {
      tenants = tenants_set rs i d new lt refl ∙ c.loop-place.invariant.tenants;
      numbers = numbers_set rs i new lt refl c.loop-place.invariant.numbers;
    }
