use Rattle.std.proofs.Common.{refl, ℕ, List, Bool}
use Rattle.indexmap.proofs.MapLemmas.{OnOk-map}
use Rattle.elab_plain.specs.vl_flat.specs.Kinds.{item_controls}
use Rattle.elab_plain.specs.declared.items.Item.{Item}
use Rattle.elab_plain.specs.SeenItems.{seen_item}
use Rattle.elab_kinds.specs.Names.{has, nothing, Adds}
use Rattle.elab_kinds.specs.Parts.{controls_in}
use Rattle.elab_kinds.proofs.Adding.{as-one, adds-under}
use Rattle.elab_kinds.proofs.items.add_shown_controls.Goals as goal

abbrev control : List ℕ → Item → Bool
control t a = item_controls t (seen_item a)

pub returns-in-Initial : goal.returns-in-Initial
returns-in-Initial c =
    let old = c.args.names.now in
    let new = c.add_controls.new.names in
    let hides = has c.args.hidden.now in
    OnOk-map c.add_controls.result (Adds old new hides (λ s. controls_in s c.in-Initial.body)) (Adds old new nothing (λ s. control s c.args.item.now))
    (λ adds. as-one controls_in control {x = c.in-Initial.body} refl c.in-Initial.is (λ s. refl) (adds-under hides c.requires adds))
    c.add_controls.ensures

pub returns-in-Always : goal.returns-in-Always
returns-in-Always c =
    let old = c.args.names.now in
    let new = c.add_controls-in-Always.new.names in
    let hides = has c.args.hidden.now in
    OnOk-map c.add_controls-in-Always.result (Adds old new hides (λ s. controls_in s c.in-Always.body)) (Adds old new nothing (λ s. control s c.args.item.now))
    (λ adds. as-one controls_in control {x = c.in-Always.body} refl c.in-Always.is (λ s. refl) (adds-under hides c.requires adds))
    c.add_controls-in-Always.ensures
