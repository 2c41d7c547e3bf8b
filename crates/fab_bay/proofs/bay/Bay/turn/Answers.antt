use Rattle.fab_bay.proofs.Owning.{owned_turn}
use Rattle.fab_bay.proofs.bay.Bay.turn.Goals as goal

pub invariant_of-self : goal.invariant_of-self
invariant_of-self c = (c.turn.ensures.bay, owned_turn c.args.number c.args.most c.self.inside.noted c.turn.new.self c.turn.result c.turn.ensures.turned c.turn.ensures.err c.turn.ensures.label c.self.invariant.1)
