use Rattle.std.proofs.Common.{[], sym, ◌∙◌, subst}
use Rattle.fab_core.specs.fab_model.specs.Fabrics.{Fabric}
use Rattle.fab_bay.specs.Standing.{IsNoted}
use Rattle.fab_bay.proofs.Acts.{held-by}
use Rattle.fab_bay.proofs.Going.{none}
use Rattle.fab_bay.proofs.Rounds.{ready-on}
use Rattle.fab_bay.proofs.noted.NotedCore.hold_on.Goals as goal

pub returns-then-self-clause-goes : goal.returns-then-self-clause-goes
returns-then-self-clause-goes c = λ out. none c.args.number c.args.self.now out

pub returns-then-self-clause-near : goal.returns-then-self-clause-near
returns-then-self-clause-near c = λ most w. w

pub returns-clause-near : goal.returns-clause-near
returns-clause-near c = c.hold.ensures.near

pub returns-clause-ready : goal.returns-clause-ready
returns-clause-ready c =
    let r = c.requires.ready in
    ready-on c.args.number 0 c.args.self.now c.hold.new.self r (c.hold.ensures.goes c.args.number []) (c.hold.ensures.room r.room)

pub returns-clause-goes : goal.returns-clause-goes
returns-clause-goes c = λ out. c.hold.ensures.goes c.args.number out

pub returns-then-self-clause-held : goal.returns-then-self-clause-held
returns-then-self-clause-held c = λ f h. subst (λ (g : Fabric). IsNoted c.args.self.now g) (sym (held-by f (sym h.core.holding ∙ c.if-self.true))) h
