use Rattle.fab_bay.proofs.Owning.{owned_take}
use Rattle.fab_bay.proofs.bay.Bay.take.Goals as goal

pub invariant_of-self : goal.invariant_of-self
invariant_of-self c = (c.take.ensures.bay, owned_take c.args.number c.args.tenant c.self.inside.noted c.take.new.self c.take.result c.take.ensures.taken c.take.ensures.err c.take.ensures.label c.self.invariant.1)
