use Rattle.elab_kinds.proofs.Parts.{empty-hides}
use Rattle.elab_kinds.proofs.items.add_item_strays.Goals as goal

pub add_shown_strays-requires : goal.add_shown_strays-requires
add_shown_strays-requires c = empty-hides c.new-hidden.result c.new-hidden.ensures.empty
