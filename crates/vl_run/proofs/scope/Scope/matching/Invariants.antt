use Rattle.std.proofs.Common.{◌≡◌, ℕ, List, drop}
use Rattle.vl_design.specs.Acts.{chosen_body}
use Rattle.vl_design.specs.Syntax.{Stm}
use Rattle.vl_eval.specs.Rooms.{names_of, sample_of}
use Rattle.vl_run.specs.Cases.{items_of, AreSoundLabels, AreLabelsWithin}
use Rattle.vl_run.specs.Scopes.{scope_of}
use Rattle.vl_run.proofs.scope.Scope.matching.Given as goal

abbrev pub invariant-loop-number : goal.invariant-loop-number
invariant-loop-number g l =
    let rest = drop l.number l.items in
    record {
      sound : AreSoundLabels (names_of l.self.room) rest;
      within : AreLabelsWithin (names_of l.self.room) l.c.width rest;
      leads : (path : List ℕ) (otherwise : Stm) → chosen_body (scope_of l.self) (sample_of l.s) l.subject l.c (items_of path rest) otherwise ≡ chosen_body (scope_of l.self) (sample_of l.s) l.subject l.c (items_of path l.items) otherwise;
    }
