use Rattle.std.proofs.Common.{map}
use Rattle.std.specs.List.{flat_map}
use Rattle.elab_plain.specs.vl_flat.specs.Kinds.{signals_in}
use Rattle.elab_plain.specs.SeenItems.{seen_item}
use Rattle.elab_kinds.proofs.Saying.{all-said}
use Rattle.elab_kinds.proofs.declared.declarations.Goals as goal

pub returns : goal.returns
returns c =
    all-said c.add_items.result c.and.result c.new-declared.result c.add_items.new.declared (flat_map signals_in (map seen_item c.args.items.now)) c.and.ensures c.new-declared.ensures.empty c.add_items.ensures
