use Rattle.std.proofs.Common.{◌≡◌, drop}
use Rattle.ten_form.specs.vl_design.specs.Trees.{flat_of}
use Rattle.ten_form.specs.vl_design.specs.Width.{names_of}
use Rattle.cell_emit.specs.cell_form.specs.Views.{list_of}
use Rattle.cell_emit.specs.Slots.{Grows}
use Rattle.cell_emit.specs.Envs.{env_of, Fits}
use Rattle.cell_waves.proofs.Passing.{Left}
use Rattle.cell_waves.proofs.pass.pass.Given as goal

abbrev pub invariant-loop-number : goal.invariant-loop-number
invariant-loop-number l =
    let d = flat_of l.design in
    record {
      grows : Grows (list_of l.initial.cells) (list_of l.cells);
      fits : Fits (names_of d) (list_of l.cells) (env_of l.at);
      first : l.at.first ≡ 0;
      left : Left d l.order (drop l.number-index l.order) (env_of l.initial.at) (env_of l.at) (list_of l.initial.cells) (list_of l.cells);
    }
