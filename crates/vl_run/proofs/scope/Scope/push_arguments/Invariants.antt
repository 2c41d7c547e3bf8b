use Rattle.std.proofs.Common.{◌≡◌, ◌++◌, map, drop}
use Rattle.std.specs.Prelude.{All}
use Rattle.vl_design.specs.Formats.{pieces_from}
use Rattle.vl_design.specs.Sound.{IsSoundPiece}
use Rattle.vl_design.specs.Tasks.{pieces_text}
use Rattle.vl_design.specs.Trees.{arg_of}
use Rattle.vl_eval.specs.Rooms.{names_of, sample_of}
use Rattle.vl_run.specs.Scopes.{scope_of}
use Rattle.vl_run.proofs.scope.Scope.push_arguments.Given as goal

abbrev pub invariant-loop-first : goal.invariant-loop-first
invariant-loop-first g l =
    let rest = pieces_from l.path l.taken (map arg_of (drop l.first-index l.args)) in
    record {
      shown : l.printed.items ++ pieces_text (scope_of l.self) (sample_of l.s) rest
          ≡ l.initial.printed.items ++ pieces_text (scope_of l.self) (sample_of l.s) (pieces_from l.path 0 (map arg_of l.args));
      sound : All (IsSoundPiece (names_of l.self.room)) rest;
      next : l.next ≡ l.first-index;
    }
