use Rattle.std.proofs.Common.{◌≡◌, ◌≤◌, ◌++◌, drop, All, length, map, true}
use Rattle.vl_design.specs.Targets.{updates_at}
use Rattle.vl_eval.specs.Rooms.{names_of}
use Rattle.cell_emit.specs.cell_form.specs.Data.{ListData}
use Rattle.cell_emit.specs.cell_form.specs.Views.{list_of}
use Rattle.cell_emit.specs.Slots.{held, width_at, IsIn, Grows}
use Rattle.cell_emit.specs.Envs.{env_of, Fits, IsSlot}
use Rattle.cell_emit.specs.Pendings.{PendingSlots, slots_of, memories_of, ArePending}
use Rattle.cell_emit.specs.Delays.{Delays}
use Rattle.cell_expr.specs.Spots as sp
use Rattle.cell_expr.proofs.spot.delay_all.Given as goal

-- where the rest of the spots is written, all are
abbrev pub invariant-loop-spot : goal.invariant-loop-spot
invariant-loop-spot l =
    let names = names_of l.room in
    let rest = drop l.spot-index l.spots in
    let cells = list_of l.cells in
    let before = list_of l.initial.cells in
    record {
      grows : Grows before cells;
      fits : Fits names cells (env_of l.at);
      pending : ArePending names cells (slots_of l.pending);
      many : length l.pending.update.items ≡ length names.rows;
      spots : All (sp.IsSpot names l.at.first cells) rest;
      value : IsIn cells l.value;
      within : sp.bits_of rest ≤ width_at cells l.value;
      narrow : width_at cells l.value ≤ 128;
      off : IsSlot cells l.off 1;
      sites : memories_of l.pending.sites.items ++ sp.stored_by rest ≡ memories_of l.initial.pending.sites.items ++ sp.stored_by l.spots;
      below : l.below ≡ sp.bits_of rest;
      leads : (p : PendingSlots) (new : ListData) → Delays names (sp.cells_of true rest) (λ b. updates_at (map (sp.spot_in names.rows b cells) rest) (held b cells l.value)) l.off (slots_of l.pending) p cells new
          → Delays names (sp.cells_of true l.spots) (λ b. updates_at (map (sp.spot_in names.rows b before) l.spots) (held b before l.value)) l.off (slots_of l.initial.pending) p before new;
    }
