use Rattle.std.proofs.Common.{[]}
use Rattle.fab_bay.proofs.Going.{none}
use Rattle.fab_bay.proofs.Rounds.{ready-on}
use Rattle.fab_bay.proofs.noted.NotedCore.rebuild_at_rest.Goals as goal

pub returns-then-not-is_at_rest-clause-goes : goal.returns-then-not-is_at_rest-clause-goes
returns-then-not-is_at_rest-clause-goes c = λ out. none c.args.number c.args.self.now out

pub returns-then-not-is_at_rest-clause-near : goal.returns-then-not-is_at_rest-clause-near
returns-then-not-is_at_rest-clause-near c = λ most w. w

pub returns-clause-near : goal.returns-clause-near
returns-clause-near c = c.rebuild.ensures.near

pub returns-clause-ready : goal.returns-clause-ready
returns-clause-ready c = ready-on c.args.number 0 c.args.self.now c.rebuild.new.self c.requires.ready (c.rebuild.ensures.goes []) c.rebuild.ensures.room
