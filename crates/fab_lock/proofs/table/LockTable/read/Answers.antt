use Rattle.std.proofs.Common.{rules, ap, ◌∙◌, ◌≡◌, ◌+◌, ◌-◌, ℕ, arith, get_or}
use Rattle.fab_lock.proofs.Words.{reads}
use Rattle.fab_lock.proofs.table.LockTable.read.Goals as goal

pub load-requires : goal.load-requires
load-requires g c = (search rules, search rules, reads _ _ _ _ _ _ _ _ c.args.word c.requires.view.0)

pub returns-clause-value : goal.returns-clause-value
returns-clause-value g c = let back : c.args.word + 1 - 1 ≡ c.args.word = omega arith in c.load.ensures.2.1 c.requires.holds ∙ ap (λ (k : ℕ). get_or c.args.seat.now.me.0.words k 0) back
