use Rattle.std.proofs.Common.{◌≡◌, List}
use Rattle.fab_core.specs.fab_model.specs.declared.transit.Transit.{Transit}
use Rattle.fab_bay.specs.Acts.{acts_to_come, rests_to_come, saves_to_come}
use Rattle.fab_bay.specs.Nearness.{BeginsNone}
use Rattle.fab_bay.specs.Rounds.{IsReady}
use Rattle.fab_bay.specs.Ways.{Goes}
use Rattle.fab_bay.proofs.noted.NotedCore.serve_to_call.Given as goal

abbrev pub invariant-saves : goal.invariant-saves
invariant-saves l = record {
  ready : IsReady l.self;
  near : BeginsNone l.initial.self l.self;
  rests : rests_to_come l.self ≡ rests_to_come l.initial.self;
  goes : (out : List Transit) → Goes l.number 0 l.initial.self l.self out out;
  still : acts_to_come l.self ≡ acts_to_come l.initial.self;
}

abbrev pub decreases-saves : goal.decreases-saves
decreases-saves l = saves_to_come l.self
