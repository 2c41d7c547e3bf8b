use Rattle.std.proofs.Common.{rules, ◌≡◌, [], ◌∷◌, ◌++◌, None}
use Rattle.fab_orders.specs.declared.outcomes.Answer.{Answer}
use Rattle.fab_rounds.proofs.Answered.{tells_so}
use Rattle.fab_rounds.proofs.ledgers.Ledger.tell.Goals as goal

pub returns : goal.returns
returns c =
    let a : Answer = record { order = c.of.result; reached = c.args.reached; finding = None } in
    let pushed : c.push.new.self.items ≡ c.args.self.now.answers.items ++ a ∷ [] = search rules in
    tells_so c.args.self.now c.requires.kept c.args.reached c.requires.tells c.in-Some.order c.pop.new.self c.of.result c.of.ensures c.push.new.self c.in-Some.ensures.items pushed
