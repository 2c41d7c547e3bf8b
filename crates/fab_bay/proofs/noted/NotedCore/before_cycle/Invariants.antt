use Rattle.std.specs.Prelude.{All}
use Rattle.fab_bay.specs.Acts.{rests_to_come}
use Rattle.fab_bay.specs.Rounds.{IsReady}
use Rattle.fab_bay.specs.Ways.{transits, Goes, LeftFor}
use Rattle.fab_bay.proofs.noted.NotedCore.before_cycle.Given as goal

abbrev pub invariant-rests : goal.invariant-rests
invariant-rests l = record {
  ready : IsReady l.self;
  whys : All LeftFor l.leaving.items;
  goes : Goes l.number 0 l.initial.self l.self (transits l.initial.leaving.items) (transits l.leaving.items);
}

abbrev pub decreases-rests : goal.decreases-rests
decreases-rests l = rests_to_come l.self
