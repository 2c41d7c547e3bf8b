use Rattle.std.proofs.Common.{◌≡◌, ℕ, List, drop}
use Rattle.vl_design.specs.Exec.{items_form}
use Rattle.vl_design.specs.Sound.{IsWidth}
use Rattle.vl_eval.specs.Rooms.{names_of}
use Rattle.vl_run.specs.Cases.{items_of, AreSoundLabels}
use Rattle.cell_expr.proofs.case.items_form.Given as goal

abbrev pub invariant-loop-item : goal.invariant-loop-item
invariant-loop-item l =
    let rest = drop l.item-index l.items in
    record {
      sound : AreSoundLabels (names_of l.room) rest;
      width : IsWidth l.all.width;
      leads : (path : List ℕ) → items_form (names_of l.room) l.all (items_of path rest) ≡ items_form (names_of l.room) l.initial.all (items_of path l.items);
    }
