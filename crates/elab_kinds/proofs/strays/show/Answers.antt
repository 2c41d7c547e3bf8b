use Rattle.std.proofs.Common.{◌∙◌, sym}
use Rattle.elab_kinds.specs.Names.{has}
use Rattle.elab_kinds.proofs.Adding.{shown-again, hidden-still}
use Rattle.elab_kinds.proofs.strays.show.Goals as goal

pub returns-then-is_new : goal.returns-then-is_new
returns-then-is_new c = λ hides k e.
    shown-again c.args.hidden.now c.swap_remove.new.self c.args.name.now hides c.swap_remove.ensures.updates.0 (sym c.if-is_new.true ∙ k) e

pub returns-else-is_new : goal.returns-else-is_new
returns-else-is_new c = λ hides k e. hidden-still (has c.args.hidden.now) c.args.name.now hides (sym c.if-is_new.false ∙ k) e
