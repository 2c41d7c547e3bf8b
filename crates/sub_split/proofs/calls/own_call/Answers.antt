use Rattle.sub_split.proofs.Trees.{own-first}
use Rattle.sub_split.proofs.calls.own_call.Goals as goal

pub returns-in-Sys : goal.returns-in-Sys
returns-in-Sys c = λ path at. own-first path at c.args.e.now c.in-Sys.call c.in-Sys.is
