use Rattle.elab_kinds.specs.Facts.{facts_of}
use Rattle.elab_instance.proofs.Choices.{wired-output, wired-input}
use Rattle.elab_instance.proofs.given.is_wired.Goals as goal

pub returns-then-not-is_input : goal.returns-then-not-is_input
returns-then-not-is_input c = wired-output (facts_of c.args.roles.now) c.args.above.now c.in-Item.given c.args.name.now c.in-Item.is c.is_input.result c.is_input.ensures.table c.is_joined.result c.if-not-is_input.true c.is_joined.ensures

pub returns-else-not-is_input : goal.returns-else-not-is_input
returns-else-not-is_input c = wired-input (facts_of c.args.roles.now) c.args.above.now c.in-Item.given c.args.name.now c.in-Item.is c.is_input.result c.is_input.ensures.table c.if-not-is_input.false
