use Rattle.std.proofs.Common.{map}
use Rattle.vl_design.specs.Trees.{arg_of}
use Rattle.vl_eval.specs.Rooms.{sample_of}
use Rattle.fmt_text.specs.Modes.{reading_of}
use Rattle.vl_run.specs.Scopes.{scope_of}
use Rattle.vl_run.proofs.Pieces.{Formatted}
use Rattle.vl_run.proofs.scope.Scope.push_format.Given as goal

abbrev pub invariant-loop-byte : goal.invariant-loop-byte
invariant-loop-byte g l =
    Formatted (scope_of l.self) (sample_of l.s) l.path l.text (map arg_of l.args) (reading_of l.mode) l.byte-index l.count l.initial.printed.items l.printed.items
