use Rattle.std.proofs.Common.{◌≡◌, List}
use Rattle.fab_core.specs.fab_model.specs.declared.transit.Transit.{Transit}
use Rattle.fab_bay.specs.Acts.{acts_to_come, rests_to_come}
use Rattle.fab_bay.specs.Rounds.{IsReady}
use Rattle.fab_bay.specs.Ways.{Goes}
use Rattle.fab_bay.proofs.noted.NotedCore.serve_all.Given as goal

abbrev pub invariant-calls : goal.invariant-calls
invariant-calls l = record {
  ready : IsReady l.self;
  goes : (out : List Transit) → Goes l.number 0 l.initial.self l.self out out;
  rests : rests_to_come l.self ≡ rests_to_come l.initial.self;
}

abbrev pub decreases-calls : goal.decreases-calls
decreases-calls l = acts_to_come l.self
