use Rattle.vl_elab.proofs.Ends.{apart-modules, elaborated, stopped, sound-met, inputs-met}
use Rattle.vl_elab.proofs.elaborate.elaborate.Goals as goal

pub returns-in-Ok-clause-elaborated : goal.returns-in-Ok-clause-elaborated
returns-in-Ok-clause-elaborated c = elaborated c.args.source.now c.flatten.result c.in-Ok.ensures.fine (c.flatten.ensures (apart-modules c.args.source.now c.in-Ok.ensures.fine))

pub returns-in-Ok-clause-sound : goal.returns-in-Ok-clause-sound
returns-in-Ok-clause-sound c = sound-met c.args.source.now c.flatten.result c.in-Ok.ensures.fine (c.flatten.ensures (apart-modules c.args.source.now c.in-Ok.ensures.fine))

pub returns-in-Ok-clause-inputs : goal.returns-in-Ok-clause-inputs
returns-in-Ok-clause-inputs c = inputs-met c.args.source.now c.flatten.result c.in-Ok.ensures.fine (c.flatten.ensures (apart-modules c.args.source.now c.in-Ok.ensures.fine))

pub returns-in-Err-clause-elaborated : goal.returns-in-Err-clause-elaborated
returns-in-Err-clause-elaborated c = stopped c.args.source.now c.names.result c.in-Err.fault c.stop_of.result c.in-Err.is c.names.ensures.fault c.stop_of.ensures
