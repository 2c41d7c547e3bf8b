use Rattle.std.proofs.Common.{◌≡◌, map, drop}
use Rattle.std.specs.Prelude.{All}
use Rattle.vl_design.specs.Formats.{pieces_from}
use Rattle.vl_design.specs.Sound.{IsSoundExp}
use Rattle.vl_design.specs.Trees.{arg_of, flat_of}
use Rattle.vl_design.specs.Width.{names_of}
use Rattle.cell_emit.specs.cell_form.specs.Views.{list_of}
use Rattle.cell_emit.specs.Slots.{Grows}
use Rattle.cell_emit.specs.Envs.{env_of}
use Rattle.ten_form.specs.Asked.{shown}
use Rattle.cell_calls.specs.Displays.{IsReady, Walked}
use Rattle.cell_calls.proofs.format.push_arguments.Given as goal

abbrev pub invariant-loop-first : goal.invariant-loop-first
invariant-loop-first l =
    let d = flat_of l.site.design.now in
    let all = pieces_from l.site.path.now 0 (map arg_of l.args) in
    let rest = pieces_from l.site.path.now l.taken (map arg_of (drop l.first-index l.args)) in
    record {
      walked : Walked d all rest (env_of l.site.at.now) l.initial.display l.display (list_of l.initial.cells) (list_of l.cells);
      grows : Grows (list_of l.initial.cells) (list_of l.cells);
      ready : IsReady d (env_of l.site.at.now) (list_of l.cells);
      sound : All (IsSoundExp (names_of d)) (shown rest);
      next : l.next ≡ l.first-index;
    }
