use Rattle.std.proofs.Common.{◌-◌, length, map}
use Rattle.vl_design.specs.Trees.{flat_of}
use Rattle.cell_emit.specs.cell_form.specs.Views.{list_of, state_of}
use Rattle.cell_emit.specs.Pendings.{slots_of}
use Rattle.cell_emit.specs.Envs.{env_of}
use Rattle.ten_form.specs.Banks.{cell_nodes}
use Rattle.cell_states.specs.Mades.{IsBase}
use Rattle.cell_states.specs.Marks.{AreDelayed}
use Rattle.cell_states.specs.Tables.{AreFirst}
use Rattle.cell_states.proofs.table.all_built.Given as goal

abbrev pub invariant-loop-alloc : goal.invariant-loop-alloc
invariant-loop-alloc l = record {
  first : AreFirst (flat_of l.design) l.order (cell_nodes (flat_of l.design)) (map state_of l.built.states) l.built.slots l.built.left;
  base : IsBase (flat_of l.design) l.order (list_of l.cells) (env_of l.base.begun.at) (slots_of l.base.begun.pending);
  marks : AreDelayed (flat_of l.design) l.delayed.items;
}

abbrev pub decreases-loop-alloc : goal.decreases-loop-alloc
decreases-loop-alloc l = length l.nodes - length l.built.states
