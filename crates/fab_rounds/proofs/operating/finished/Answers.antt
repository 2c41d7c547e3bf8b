use Rattle.std.proofs.Common.{refl, ◌∙◌}
use Rattle.fab_rounds.proofs.Begins.{begun_still}
use Rattle.fab_rounds.proofs.Ordered.{all_still, fewer_left, operates_on, operates_same, operates_told, told_done}
use Rattle.fab_rounds.proofs.operating.finished.Goals as goal

pub loop-next-init : goal.loop-next-init
loop-next-init c = record { operates = operates_same c.args.desks.now c.args.ledger c.requires.ledger c.requires.none; done = refl }

pub finish-requires-clause-begun : goal.finish-requires-clause-begun
finish-requires-clause-begun c = let o = c.loop-next.invariant.operates in begun_still c.args.ledger c.loop-next.ledger c.requires.begun o.same.0 o.reach

pub finish-requires-clause-all : goal.finish-requires-clause-all
finish-requires-clause-all c = let v = c.loop-next.invariant in all_still c.args.ledger c.loop-next.ledger v.done v.operates.same.0 c.requires.all

pub loop-next-preserved : goal.loop-next-preserved
loop-next-preserved c = let v = c.loop-next.invariant in let o = v.operates in record {
  operates = operates_on c.args.desks.now c.args.ledger c.loop-next.ledger c.finish.new.self o (operates_told c.args.desks.now c.loop-next.ledger c.finish.new.self o.ledger o.none c.in_ok-finish.ensures);
  done = told_done c.args.desks.now c.loop-next.ledger c.finish.new.self c.in_ok-finish.ensures ∙ v.done;
}

pub loop-next-smaller : goal.loop-next-smaller
loop-next-smaller c = fewer_left c.args.desks.now c.loop-next.ledger c.finish.new.self c.in_ok-finish.ensures

pub returns-clause-all : goal.returns-clause-all
returns-clause-all c = let v = c.loop-next.invariant in all_still c.args.ledger c.loop-next.ledger v.done v.operates.same.0 c.requires.all
