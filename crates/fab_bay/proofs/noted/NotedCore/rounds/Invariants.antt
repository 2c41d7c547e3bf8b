use Rattle.std.specs.Prelude.{All}
use Rattle.fab_bay.specs.Rounds.{IsReady}
use Rattle.fab_bay.specs.Ways.{transits, Goes, LeftFor}
use Rattle.fab_bay.proofs.noted.NotedCore.rounds.Given as goal

abbrev pub invariant-loop-done : goal.invariant-loop-done
invariant-loop-done l = record {
  ready : IsReady l.self;
  whys : All LeftFor l.leaving.items;
  goes : Goes l.number l.done l.initial.self l.self (transits l.initial.leaving.items) (transits l.leaving.items);
}
