use Rattle.std.proofs.Common.{sym, ap, ◌∙◌, map}
use Rattle.std.specs.List.{list_any}
use Rattle.indexmap.proofs.MapLemmas.{OnOk-map}
use Rattle.elab_plain.specs.vl_flat.specs.Kinds.{item_controls}
use Rattle.elab_plain.specs.SeenItems.{seen_item}
use Rattle.elab_kinds.specs.Names.{nothing, Adds}
use Rattle.elab_kinds.proofs.Adding.{adds-as}
use Rattle.elab_kinds.proofs.Parts.{any-map, filled}
use Rattle.elab_kinds.proofs.items.controls_of.Goals as goal

pub returns : goal.returns
returns c =
    let items = c.args.items.now in
    let old = c.new-names.result in
    let new = c.add_controls_of.new.names in
    filled c.add_controls_of.result c.and.result old new (λ t. list_any (item_controls t) (map seen_item items)) c.and.ensures c.new-names.ensures.empty
    (OnOk-map c.add_controls_of.result (Adds old new nothing (λ t. list_any (λ a. item_controls t (seen_item a)) items)) (Adds old new nothing (λ t. list_any (item_controls t) (map seen_item items)))
    (λ adds. adds-as adds (λ t. sym (any-map (item_controls t) seen_item items)))
    c.add_controls_of.ensures)
