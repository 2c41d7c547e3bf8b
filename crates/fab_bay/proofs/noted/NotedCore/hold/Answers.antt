use Rattle.std.proofs.Common.{refl}
use Rattle.fab_core.specs.fab_model.specs.Fabrics.{held}
use Rattle.fab_bay.proofs.Events.{goes-hold, keeps-noted}
use Rattle.fab_bay.proofs.Near.{none-held}
use Rattle.fab_bay.proofs.noted.NotedCore.hold.Goals as goal

pub returns-clause-goes : goal.returns-clause-goes
returns-clause-goes c = λ number out.
    let x = c.args.self.now in
    goes-hold number x (record x { core = c.hold.new.self }) out (record { label = refl; berths = refl; waiting = refl; notes = refl; told = refl }) c.requires.free c.hold.ensures

pub returns-clause-near : goal.returns-clause-near
returns-clause-near c =
    let f = c.requires.fabric.0 in
    let h = c.requires.fabric.1 in
    let x = c.args.self.now in
    none-held x (record x { core = c.hold.new.self }) f h.core (c.hold.ensures f h.core)

pub returns-clause-held : goal.returns-clause-held
returns-clause-held c = λ f h.
    let x = c.args.self.now in
    keeps-noted x (record x { core = c.hold.new.self }) f (held f) (record { label = refl; berths = refl; waiting = refl; notes = refl; told = refl }) h (c.hold.ensures f h.core) refl h.residents h.line
