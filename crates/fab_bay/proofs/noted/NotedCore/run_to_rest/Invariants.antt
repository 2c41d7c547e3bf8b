use Rattle.std.proofs.Common.{ℕ, List}
use Rattle.fab_core.specs.fab_model.specs.declared.transit.Transit.{Transit}
use Rattle.fab_bay.specs.Acts.{acts_to_come}
use Rattle.fab_bay.specs.Nearness.{BeginsNone}
use Rattle.fab_bay.specs.Rounds.{IsReady}
use Rattle.fab_bay.specs.Ways.{Goes}
use Rattle.fab_bay.proofs.noted.NotedCore.run_to_rest.Given as goal

abbrev pub invariant-acts : goal.invariant-acts
invariant-acts l = record {
  ready : IsReady l.self;
  near : BeginsNone l.initial.self l.self;
  goes : (cycles : ℕ) × ((out : List Transit) → Goes l.number cycles l.initial.self l.self out out);
}

abbrev pub decreases-acts : goal.decreases-acts
decreases-acts l = acts_to_come l.self
