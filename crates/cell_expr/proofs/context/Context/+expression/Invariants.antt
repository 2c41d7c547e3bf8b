use Rattle.cell_expr.proofs.Giving.{Passed}
use Rattle.cell_expr.proofs.Parts.{Sided}
use Rattle.cell_expr.proofs.Sizes.{exp_size, exps_size}
use Rattle.cell_expr.specs.Contexts.{names_of, scope_of, body_of}
use Rattle.cell_emit.specs.cell_form.specs.Views.{list_of}
use Rattle.cell_emit.specs.Envs.{env_of, Fits}
use Rattle.cell_emit.specs.Slots.{Grows}
use Rattle.std.proofs.Common.{◌≡◌, ◌+◌, ◌*◌, List, drop, length}
use Rattle.vl_base.specs.declared.files.File.{File}
use Rattle.vl_design.specs.Sound.{AreSound}
use Rattle.vl_design.specs.Trees.{exp_of, exps_of, fun_of}
use Rattle.vl_design.specs.Width.{names_in}
use Rattle.cell_expr.proofs.context.Context.+expression.Given as goal

abbrev pub decreases-own_in : goal.decreases-own_in
decreases-own_in g l = 6 * exp_size (exp_of l.e.now) + 1

abbrev pub decreases-word_in : goal.decreases-word_in
decreases-word_in g l = 6 * exp_size (exp_of l.a.now) + 3

abbrev pub decreases-pick_in : goal.decreases-pick_in
decreases-pick_in g l = 6 * (exp_size (exp_of l.base.now) + exp_size (exp_of l.index.now)) + 3

abbrev pub decreases-slice_in : goal.decreases-slice_in
decreases-slice_in g l = 6 * exp_size (exp_of l.base.now) + 3

abbrev pub decreases-unary_in : goal.decreases-unary_in
decreases-unary_in g l = 6 * exp_size (exp_of l.a.now) + 3

abbrev pub decreases-binary_in : goal.decreases-binary_in
decreases-binary_in g l = 6 * (exp_size (exp_of l.a.now) + exp_size (exp_of l.b.now)) + 3

abbrev pub decreases-choice_in : goal.decreases-choice_in
decreases-choice_in g l = 6 * (exp_size (exp_of l.test.now) + (exp_size (exp_of l.a.now) + exp_size (exp_of l.b.now))) + 3

abbrev pub decreases-parts_in : goal.decreases-parts_in
decreases-parts_in g l = 6 * exps_size (exps_of l.parts.now) + 4

abbrev pub decreases-extended_in : goal.decreases-extended_in
decreases-extended_in g l = 6 * exp_size (exp_of l.e.now) + 2

abbrev pub decreases-wide_in : goal.decreases-wide_in
decreases-wide_in g l = 6 * exp_size (exp_of l.e.now) + 3

abbrev pub decreases-joined_in : goal.decreases-joined_in
decreases-joined_in g l = 6 * exps_size (exps_of l.parts.now) + 5

abbrev pub decreases-repeated_in : goal.decreases-repeated_in
decreases-repeated_in g l = 6 * exps_size (exps_of l.parts.now) + 5

abbrev pub decreases-cast_in : goal.decreases-cast_in
decreases-cast_in g l = 6 * exp_size (exp_of l.a.now) + 3

abbrev pub decreases-argument_in : goal.decreases-argument_in
decreases-argument_in g l = 6 * exp_size (exp_of l.e.now) + 1

abbrev pub decreases-arguments_in : goal.decreases-arguments_in
decreases-arguments_in g l = 6 * exps_size (exps_of l.arguments.now) + 2

abbrev pub decreases-call_in : goal.decreases-call_in
decreases-call_in g l = 6 * (exps_size (exps_of l.arguments.now)) + 3

abbrev pub decreases-compile_in : goal.decreases-compile_in
decreases-compile_in g l = 6 * exp_size (exp_of l.e.now)

abbrev pub invariant-parts_in-loop-part : goal.invariant-parts_in-loop-part
invariant-parts_in-loop-part g l =
    let names = names_of l.self in
    let whole = exps_of l.parts in
    let rest = exps_of (drop l.part-index l.parts) in
    record {
      grows : Grows (list_of l.initial.cells) (list_of l.cells);
      fits : Fits names (list_of l.cells) (env_of l.at);
      sound : AreSound names rest;
      sided : (files : List File) → Sided (scope_of l.self files) (body_of l.self) l.more (env_of l.at) (list_of l.initial.cells) (list_of l.cells) l.all rest whole;
    }

abbrev pub invariant-arguments_in-loop-number : goal.invariant-arguments_in-loop-number
invariant-arguments_in-loop-number g l =
    let names = names_of l.self in
    let inside = names_in names (fun_of l.func) in
    let cells = list_of l.cells in
    record {
      grows : Grows (list_of l.initial.cells) cells;
      fits : Fits names cells (env_of l.at);
      inside : Fits inside cells (env_of l.body);
      first : l.body.first ≡ length names.signals;
      sound : AreSound names (exps_of (drop l.number l.arguments));
      leads : (files : List File) → Passed names (fun_of l.func) (scope_of l.self files) (body_of l.self) (env_of l.at) (env_of l.initial.body) (env_of l.body) (list_of l.initial.cells) cells
          (exps_of (drop l.number l.arguments)) (drop l.number l.func.inputs) (exps_of l.arguments) l.func.inputs;
    }
