use Rattle.ten_core.specs.cell_form.specs.Views.{bank_of}
use Rattle.ten_parcel.proofs.Loading.{begins-there, can-there, loaded, runs-on}
use Rattle.ten_parcel.proofs.parcel.Parcel.load.Goals as goal

pub make_saves-requires : goal.make_saves-requires
make_saves-requires c =
    let x = c.args.origin in
    let e = c.in-Runs.engine in
    let k = c.in-Runs.bank in
    let g = runs-on x c.in_ok-engine.field-0 e k c.in-Runs.is c.in_ok-engine.ensures in
    let f = c.begun-shell.ensures.stands (bank_of k) (begins-there c.args.number x e k c.requires g) (can-there c.args.number x e k c.requires g) in
    (f.0, f.1, f.2)

pub returns-in_ok-make_saves-in-Runs : goal.returns-in_ok-make_saves-in-Runs
returns-in_ok-make_saves-in-Runs c =
    let x = c.args.origin in
    let n = c.args.number in
    let e = c.in-Runs.engine in
    let k = c.in-Runs.bank in
    let g = runs-on x c.in_ok-engine.field-0 e k c.in-Runs.is c.in_ok-engine.ensures in
    let f = c.begun-shell.ensures.stands (bank_of k) (begins-there n x e k c.requires g) (can-there n x e k c.requires g) in
    loaded n x e k c.requires g c.begun-shell.result c.begun-shell.ensures.shell f c.make_saves.new.self c.make_saves.ensures.stands c.in_ok-make_saves-in-Runs.ensures.none
    c.make_saves.ensures.same c.make_saves.ensures.engine c.make_saves.ensures.moved
