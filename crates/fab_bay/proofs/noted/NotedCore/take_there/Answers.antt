use Rattle.std.proofs.Common.{[]}
use Rattle.fab_bay.proofs.Near.{none-then}
use Rattle.fab_bay.proofs.Staying.{stays-there}
use Rattle.fab_bay.proofs.Taking.{found-after}
use Rattle.fab_bay.proofs.noted.NotedCore.take_there.Goals as goal

pub returns-then-not-run_to_rest-clause-found : goal.returns-then-not-run_to_rest-clause-found
returns-then-not-run_to_rest-clause-found c = let g = c.run_to_rest.ensures.goes in (g.0, g.1 [])

pub returns-clause-near : goal.returns-clause-near
returns-clause-near c = none-then c.args.self.now c.run_to_rest.new.self c.take_at_rest.new.self c.run_to_rest.ensures.near c.take_at_rest.ensures.near

pub returns-clause-found : goal.returns-clause-found
returns-clause-found c =
    let g = c.run_to_rest.ensures.goes in
    found-after c.args.number c.args.tenant g.0 c.args.self.now c.run_to_rest.new.self c.take_at_rest.new.self g.1 c.run_to_rest.ensures.near c.run_to_rest.ensures.ready.noted.legal c.take_at_rest.result c.take_at_rest.ensures.found

pub take_at_rest-requires-clause-there : goal.take_at_rest-requires-clause-there
take_at_rest-requires-clause-there c =
    let g = c.run_to_rest.ensures.goes in
    stays-there c.args.number g.0 c.args.tenant c.args.self.now c.run_to_rest.new.self c.run_to_rest.ensures.ready (g.1 []) c.requires.there
