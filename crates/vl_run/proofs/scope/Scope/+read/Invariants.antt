use Rattle.std.proofs.Common.{◌≡◌, ◌++◌, ◌<◌, length, drop}
use Rattle.vl_design.specs.Trees.{exp_of, exps_of}
use Rattle.vl_design.specs.Sound.{AreSound}
use Rattle.vl_design.specs.Width.{input_widths}
use Rattle.vl_design.specs.Value.{arguments}
use Rattle.vl_eval.specs.Answers.{answers_of, all_answers}
use Rattle.vl_eval.specs.Rooms.{names_of, sample_of}
use Rattle.vl_run.specs.Scopes.{scope_of, call_arguments}
use Rattle.vl_run.proofs.scope.Scope.+read.Given as goal

abbrev pub invariant-answer-loop-part : goal.invariant-answer-loop-part
invariant-answer-loop-part g l =
    let rest = exps_of (drop l.part-index l.part-items) in
    record {
      sound : AreSound (names_of l.self.room) rest;
      leads : l.answers.items ++ all_answers (scope_of l.self) (sample_of l.s) rest ≡ l.initial.answers.items ++ answers_of (scope_of l.self) (sample_of l.s) (exp_of l.e);
    }

abbrev pub invariant-arguments-loop-argument : goal.invariant-arguments-loop-argument
invariant-arguments-loop-argument g l =
    let rest = exps_of (drop l.argument-index l.argument-items) in
    record {
      there : l.function < length l.self.room.funcs.now;
      sound : AreSound (names_of l.self.room) rest;
      leads : l.values.items ++ arguments (scope_of l.self) (sample_of l.s) rest (drop (length l.values.items) (input_widths (names_of l.self.room) l.function))
          ≡ call_arguments (scope_of l.self) (sample_of l.s) (exp_of l.e);
    }
