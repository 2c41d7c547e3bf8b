use Rattle.std.proofs.Common.{◌≡◌, drop}
use Rattle.vl_design.specs.Exec.{some_match}
use Rattle.vl_design.specs.Sound.{AreSound}
use Rattle.vl_design.specs.Trees.{exps_of}
use Rattle.vl_eval.specs.Rooms.{names_of, sample_of}
use Rattle.vl_run.specs.Cases.{AreWithin}
use Rattle.vl_run.specs.Scopes.{scope_of}
use Rattle.vl_run.proofs.scope.Scope.some_match.Given as goal

abbrev pub invariant-loop-label : goal.invariant-loop-label
invariant-loop-label g l =
    let rest = exps_of (drop l.label-index l.labels) in
    record {
      sound : AreSound (names_of l.self.room) rest;
      within : AreWithin (names_of l.self.room) l.c.width rest;
      leads : some_match (scope_of l.self) (sample_of l.s) l.c l.subject rest ≡ some_match (scope_of l.self) (sample_of l.s) l.c l.subject (exps_of l.labels);
    }
