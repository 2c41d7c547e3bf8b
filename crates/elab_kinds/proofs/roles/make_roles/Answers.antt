use Rattle.std.proofs.Common.{ap, ◌∙◌, List, map}
use Rattle.std.specs.List.{list_any, flat_map}
use Rattle.elab_plain.specs.vl_flat.specs.Kinds.{signals_in, item_controls, item_strays, item_writes}
use Rattle.elab_plain.specs.declared.items.Item.{Item}
use Rattle.elab_plain.specs.SeenItems.{seen_item}
use Rattle.elab_kinds.specs.Said.{said}
use Rattle.elab_kinds.proofs.roles.make_roles.Goals as goal

pub returns : goal.returns
returns c =
    let same = c.as_slice-items.ensures.value in
    let declared = c.in_ok-declared.ensures ∙ ap (λ (z : List Item). said (flat_map signals_in (map seen_item z))) same in
    let controls = c.in_ok-controls.ensures.controls ∙ ap (λ (z : List Item). λ t. list_any (item_controls t) (map seen_item z)) same in
    let strays = c.in_ok-controls.ensures.strays ∙ ap (λ (z : List Item). λ t. list_any (item_strays t) (map seen_item z)) same in
    let writes = c.in_ok-writes.ensures ∙ ap (λ (z : List Item). λ t. list_any (item_writes t) (map seen_item z)) same in
    λ i t. record {
      input = (declared i t).input;
      valued = (declared i t).valued;
      memory = (declared i t).memory;
      variable = (declared i t).variable;
      controls = controls i t;
      strays = strays i t;
      writes = writes i t;
    }
