use Rattle.std.proofs.Common.{ap, ◌∙◌}
use Rattle.fab_desk.proofs.Giving.{adds, reaches_added, served}
use Rattle.fab_desk.proofs.Histories.{below, reaches_told}
use Rattle.fab_desk.proofs.desk.Desk.serve.Goals as goal

pub publish-requires-clause-tenants : goal.publish-requires-clause-tenants
publish-requires-clause-tenants c = let g = c.requires.gives in rw g.told (below _ g.added g.few)

pub give-requires-clause-grows : goal.give-requires-clause-grows
give-requires-clause-grows c = let p = c.publish.ensures.view in rw (ap (λ v. v.taken) p, ap (λ v. v.low) p) (adds _ _ _ _ _ c.requires.gives)

pub give-requires-clause-reach : goal.give-requires-clause-reach
give-requires-clause-reach c = let p = c.publish.ensures.view in let v = c.args.seat.now.view in
    rw (ap (λ v. v.count) p) (reaches_added _ _ _ _ v.taken _ c.args.entries.now c.requires.gives (c.publish.ensures.reach _ (reaches_told _ v.words v.taken c.requires.reach)))

pub returns-clause-view : goal.returns-clause-view
returns-clause-view c = λ added e. c.give.ensures.view ∙ served c.args.seat.now.view c.publish.new.seat.view _ added c.publish.ensures.view e
