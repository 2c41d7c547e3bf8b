use Rattle.cell_expr.proofs.Sizes.{target_size, targets_size}
use Rattle.cell_expr.specs.Contexts.{names_of, scope_of, body_of}
use Rattle.cell_expr.specs.Counts.{all_indices_count, all_parts_count}
use Rattle.cell_expr.specs.Spots.{Spotted}
use Rattle.cell_emit.specs.vl_sites.specs.Stored.{targets_stored}
use Rattle.cell_expr.specs.declared.spot.Spot.{Spot}
use Rattle.cell_emit.specs.cell_form.specs.Data.{ListData}
use Rattle.cell_emit.specs.cell_form.specs.Views.{list_of}
use Rattle.cell_emit.specs.Envs.{env_of, Fits}
use Rattle.cell_emit.specs.Slots.{Grows}
use Rattle.std.proofs.Common.{◌≡◌, List, drop, false, nat_lt, ◌*◌, ◌+◌}
use Rattle.vl_base.specs.declared.files.File.{File}
use Rattle.vl_design.specs.Reads.{targets_write}
use Rattle.vl_design.specs.Sound.{AreSoundTargets}
use Rattle.vl_design.specs.Trees.{target_of}
use Rattle.vl_run.specs.Lists.{targets_of}
use Rattle.vl_design.specs.Targets as targets
use Rattle.cell_expr.proofs.context.Context.+spots.Given as goal

abbrev pub decreases-spots_in : goal.decreases-spots_in
decreases-spots_in g l = 4 * target_size (target_of l.target.now) + 1

abbrev pub decreases-targets_in : goal.decreases-targets_in
decreases-targets_in g l = 4 * targets_size (targets_of l.parts.now) + 2

abbrev pub invariant-targets_in-loop-part : goal.invariant-targets_in-loop-part
invariant-targets_in-loop-part g l =
    let names = names_of l.self in
    let rest = targets_of (drop l.part-index l.parts) in
    let whole = targets_of l.parts in
    let cells = list_of l.cells in
    record {
      grows : Grows (list_of l.initial.cells) cells;
      fits : Fits names cells (env_of l.at);
      sound : AreSoundTargets names rest;
      apart : targets_write (λ k. nat_lt k l.at.first) rest ≡ false;
      leads : (files : List File) (after : List Spot) (new : ListData) → Spotted names (all_indices_count (body_of l.self) rest) (env_of l.at) cells new l.spots.items after (targets.targets_width names rest) (all_parts_count rest) (targets_stored rest) (λ x. targets.all_spots (scope_of l.self files) x rest)
          → Spotted names (all_indices_count (body_of l.self) whole) (env_of l.at) (list_of l.initial.cells) new l.initial.spots.items after (targets.targets_width names whole) (all_parts_count whole) (targets_stored whole) (λ x. targets.all_spots (scope_of l.self files) x whole);
    }
