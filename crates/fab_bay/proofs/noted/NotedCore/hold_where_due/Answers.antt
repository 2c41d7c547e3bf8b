use Rattle.std.proofs.Common.{[], ◌∙◌}
use Rattle.fab_bay.proofs.Going.{none}
use Rattle.fab_bay.proofs.Rounds.{ready-on}
use Rattle.fab_bay.proofs.Wanted.{held-for, held-not, nobody-wanted}
use Rattle.fab_bay.proofs.noted.NotedCore.hold_where_due.Goals as goal

pub returns-then-self-clause-goes : goal.returns-then-self-clause-goes
returns-then-self-clause-goes c = λ out. none c.args.number c.args.self.now out

pub returns-then-self-clause-held : goal.returns-then-self-clause-held
returns-then-self-clause-held c = λ f n. held-not c.args.self.now f n

pub returns-then-not-is_wanted-clause-goes : goal.returns-then-not-is_wanted-clause-goes
returns-then-not-is_wanted-clause-goes c = λ out. none c.args.number c.args.self.now out

pub returns-then-not-is_wanted-clause-settled : goal.returns-then-not-is_wanted-clause-settled
returns-then-not-is_wanted-clause-settled c = λ f n free. nobody-wanted f (c.is_wanted.ensures f n ∙ c.if-not-is_wanted.true)

pub returns-then-not-is_wanted-clause-held : goal.returns-then-not-is_wanted-clause-held
returns-then-not-is_wanted-clause-held c = λ f n. held-not c.args.self.now f n

pub returns-clause-ready : goal.returns-clause-ready
returns-clause-ready c =
    let r = c.requires.ready in
    ready-on c.args.number 0 c.args.self.now c.hold.new.self r (c.hold.ensures.goes c.args.number []) (c.hold.ensures.room r.room)

pub returns-clause-goes : goal.returns-clause-goes
returns-clause-goes c = λ out. c.hold.ensures.goes c.args.number out

pub returns-clause-held : goal.returns-clause-held
returns-clause-held c = λ f n. held-for c.args.self.now c.hold.new.self f (c.hold.ensures.held f n) (c.is_wanted.ensures f n ∙ c.if-not-is_wanted.false) c.if-self.false c.hold.ensures.holds c.hold.ensures.moves
