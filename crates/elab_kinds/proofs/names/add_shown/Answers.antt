use Rattle.std.proofs.Common.{◌∙◌, sym}
use Rattle.std.specs.Str.{bytes_eq}
use Rattle.indexmap.proofs.MapLemmas.{OnOk-map}
use Rattle.elab_kinds.specs.Names.{has, nothing, Adds}
use Rattle.elab_kinds.proofs.Adding.{adds-hidden, adds-shown}
use Rattle.elab_kinds.proofs.names.add_shown.Goals as goal

pub returns-then-has : goal.returns-then-has
returns-then-has c = adds-hidden c.args.names.now (has c.args.hidden.now) c.args.name.now (sym c.has.ensures ∙ c.if-has.true)

pub returns : goal.returns
returns c =
    let hides = has c.args.hidden.now in
    let name = c.args.name.now in
    OnOk-map c.add.result (Adds c.args.names.now c.add.new.names nothing (λ t. bytes_eq t name)) (Adds c.args.names.now c.add.new.names hides (λ t. bytes_eq t name))
    (λ adds. adds-shown hides name (sym c.has.ensures ∙ c.if-has.false) adds)
    c.add.ensures
