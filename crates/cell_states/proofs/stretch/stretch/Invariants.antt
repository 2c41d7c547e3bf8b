use Rattle.std.proofs.Common.{map, take}
use Rattle.vl_design.specs.Trees.{flat_of}
use Rattle.cell_emit.specs.cell_form.specs.Views.{list_of}
use Rattle.cell_emit.specs.Slots.{Grows}
use Rattle.cell_emit.specs.Envs.{env_of}
use Rattle.cell_emit.specs.Pendings.{slots_of}
use Rattle.ten_form.specs.sub_split.specs.Views.{piece_view}
use Rattle.cell_states.specs.Segments.{DoesAll}
use Rattle.cell_states.proofs.stretch.stretch.Given as goal

-- the first statements are done
abbrev pub invariant-loop-a : goal.invariant-loop-a
invariant-loop-a l =
    record {
      grows : Grows (list_of l.fn.cells) (list_of l.cells);
      does : DoesAll (flat_of l.design) (map piece_view (take l.a-index l.pieces)) (env_of l.fn.begun.at) (env_of l.begun.at) (slots_of l.fn.begun.pending) (slots_of l.begun.pending) (list_of l.fn.cells) (list_of l.cells);
    }
