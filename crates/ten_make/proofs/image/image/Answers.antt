use Rattle.std.proofs.Common.{refl, sym, subst}
use Rattle.ten_core.specs.vl_design.specs.Trees.{flat_of}
use Rattle.ten_core.specs.declared.image.Image.{Image}
use Rattle.ten_core.specs.Tenants.{IsImage}
use Rattle.ten_make.proofs.image.image.Goals as goal

pub returns-clause-image : goal.returns-clause-image
returns-clause-image c =
    let made = c.in_ok-made.made in
    let image : Image = record { design = c.args.design; order = c.args.order; table = made.table; rise = made.rise; slots = made.slots; stores = made.stores; ports = made.ports; cost = made.cost } in
    subst (λ xs. IsImage (flat_of c.args.design) xs image) c.deref.ensures.value (c.in_ok-made.ensures.image image refl (sym c.deref.ensures.value) refl refl refl refl refl refl)

pub returns-clause-within : goal.returns-clause-within
returns-clause-within c =
    let made = c.in_ok-made.made in
    let image : Image = record { design = c.args.design; order = c.args.order; table = made.table; rise = made.rise; slots = made.slots; stores = made.stores; ports = made.ports; cost = made.cost } in
    c.in_ok-made.ensures.within image refl refl
