use Rattle.host_text.proofs.Kept.{none-of, some-of}
use Rattle.host_text.proofs.causes.draft_of.Goals as goal

pub returns-in-None : goal.returns-in-None
returns-in-None c = none-of c.args.reading.now c.args.name.now c.requires c.in-None.ensures

pub returns-in-Some : goal.returns-in-Some
returns-in-Some c = some-of c.args.reading.now c.args.name.now c.deref.result.now c.in-Some.number c.get.result c.requires c.deref.ensures.value c.in-Some.ensures c.get.ensures.lookup.0 c.get.ensures.lookup.1
