use Rattle.std.proofs.Common.{◌≡◌, drop, map}
use Rattle.vl_design.specs.State.{all_updated}
use Rattle.vl_design.specs.Laws.{IsFine}
use Rattle.vl_eval.specs.Rooms.{names_of}
use Rattle.vl_eval.specs.Updates.{update_of}
use Rattle.vl_eval.proofs.update.write_all.Given as goal

abbrev pub invariant-loop-u : goal.invariant-loop-u
invariant-loop-u l =
    let rows = (names_of l.room).rows in
    record {
      fine : IsFine rows l.values.items;
      leads : all_updated rows l.values.items (map update_of (drop l.u-index l.updates)) ≡ all_updated rows l.initial.values.items (map update_of l.updates);
    }
