use Rattle.std.proofs.Common.{◌≡◌, ◌+◌, ◌++◌, List, map, drop}
use Rattle.indexmap.specs.IndexSet.{index_set_len}
use Rattle.elab_plain.specs.vl_flat.specs.Items as x
use Rattle.elab_plain.specs.SeenItems.{seen_declared}
use Rattle.elab_kinds.specs.Names.{has}
use Rattle.elab_kinds.specs.Sized.{count_new}
use Rattle.elab_kinds.proofs.own.note_all.Given as goal

abbrev pub invariant-loop-d : goal.invariant-loop-d
invariant-loop-d l = (type : x.DataType) (others : List x.Declared) →
    index_set_len l.known + count_new (has l.known) (map (seen_declared type) (drop l.d-index l.ds) ++ others)
    ≡ index_set_len l.initial.known + count_new (has l.initial.known) (map (seen_declared type) l.ds ++ others)
