use Rattle.elab_kinds.specs.Facts.{facts_of}
use Rattle.elab_instance.proofs.Choices.{clock-input, clock-output}
use Rattle.elab_instance.proofs.given.is_clock.Goals as goal

pub returns-then-is_input : goal.returns-then-is_input
returns-then-is_input c = clock-input (facts_of c.args.roles.now) c.args.above.now c.in-Item.given c.args.name.now c.in-Item.is c.is_input-in-Item.result c.is_input-in-Item.ensures.table c.takes_clock.result c.if-is_input.true c.takes_clock.ensures

pub returns-else-is_input : goal.returns-else-is_input
returns-else-is_input c = clock-output (facts_of c.args.roles.now) c.args.above.now c.in-Item.given c.args.name.now c.in-Item.is c.is_input-in-Item.result c.is_input-in-Item.ensures.table c.if-is_input.false
