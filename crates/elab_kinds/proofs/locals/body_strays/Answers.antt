use Rattle.indexmap.proofs.MapLemmas.{OnOk-map}
use Rattle.elab_kinds.specs.Names.{has, nothing, Adds}
use Rattle.elab_kinds.specs.Parts.{strays_in}
use Rattle.elab_kinds.proofs.Adding.{adds-under}
use Rattle.elab_kinds.proofs.Parts.{empty-hides, filled}
use Rattle.elab_kinds.proofs.locals.body_strays.Goals as goal

pub returns : goal.returns
returns c =
    let hides = has c.new-hidden.result in
    let shown = empty-hides c.new-hidden.result c.new-hidden.ensures.empty in
    let old = c.new-strays.result in
    let new = c.add_strays.new.names in
    filled c.add_strays.result c.and.result old new (λ t. strays_in t c.args.body.now) c.and.ensures c.new-strays.ensures.empty
    (OnOk-map c.add_strays.result (Adds old new hides (λ t. strays_in t c.args.body.now)) (Adds old new nothing (λ t. strays_in t c.args.body.now)) (λ adds. adds-under hides shown adds) c.add_strays.ensures.names)
