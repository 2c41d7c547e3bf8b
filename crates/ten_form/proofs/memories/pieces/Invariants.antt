use Rattle.std.proofs.Common.{◌≡◌, drop}
use Rattle.std.specs.Prelude.{◌++◌, map}
use Rattle.sub_split.specs.Views.{piece_view}
use Rattle.ten_form.specs.Stores.{all_stored}
use Rattle.ten_form.proofs.memories.pieces.Given as goal

abbrev pub invariant-loop-a : goal.invariant-loop-a
invariant-loop-a l = l.memories.items ++ all_stored (map piece_view (drop l.a-index l.list)) ≡ l.initial.memories.items ++ all_stored (map piece_view l.list)
