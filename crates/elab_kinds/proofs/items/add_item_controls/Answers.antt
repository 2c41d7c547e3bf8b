use Rattle.elab_kinds.proofs.Parts.{empty-hides}
use Rattle.elab_kinds.proofs.items.add_item_controls.Goals as goal

pub add_shown_controls-requires : goal.add_shown_controls-requires
add_shown_controls-requires c = empty-hides c.new-hidden.result c.new-hidden.ensures.empty
