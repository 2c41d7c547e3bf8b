use Rattle.fab_model.specs.Fabrics.{arrived}
use Rattle.machine_rows.proofs.fabrics.orders.comes.Goals as goal

pub returns-in-Ok : goal.returns-in-Ok
returns-in-Ok c =
    let f = c.requires.core.fabric in
    let p = c.requires.parcel.0 in
    record { fabric = arrived p f; stands = c.in-Ok.ensures.arrived f p c.requires.core.stands c.requires.parcel.1 }
