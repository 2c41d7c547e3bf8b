use Rattle.std.proofs.Common.{◌≡◌, ◌≤◌, [], drop, All, map, false}
use Rattle.vl_design.specs.Targets.{updates_at}
use Rattle.vl_eval.specs.Rooms.{names_of}
use Rattle.cell_emit.specs.cell_form.specs.Data.{ListData}
use Rattle.cell_emit.specs.cell_form.specs.Views.{list_of}
use Rattle.cell_emit.specs.Slots.{held, width_at, IsIn, Grows}
use Rattle.cell_emit.specs.Envs.{Env, env_of, Fits, IsSlot}
use Rattle.cell_emit.specs.Paths.{Updates}
use Rattle.cell_expr.specs.Spots as sp
use Rattle.cell_expr.proofs.spot.assign_all.Given as goal

-- where the rest of the spots is written, all are
abbrev pub invariant-loop-spot : goal.invariant-loop-spot
invariant-loop-spot l =
    let names = names_of l.room in
    let rest = drop l.spot-index l.spots in
    let cells = list_of l.cells in
    let before = list_of l.initial.cells in
    record {
      grows : Grows before cells;
      fits : Fits names cells (env_of l.at);
      spots : All (sp.IsSpot names l.at.first cells) rest;
      whole : sp.stored_by rest ≡ [];
      value : IsIn cells l.value;
      within : sp.bits_of rest ≤ width_at cells l.value;
      narrow : width_at cells l.value ≤ 128;
      off : IsSlot cells l.off 1;
      left : l.left ≡ sp.bits_of rest;
      leads : (at : Env) (new : ListData) → Updates names (sp.cells_of false rest) (λ b. updates_at (map (sp.spot_in names.rows b cells) rest) (held b cells l.value)) l.off (env_of l.at) at cells new
          → Updates names (sp.cells_of false l.spots) (λ b. updates_at (map (sp.spot_in names.rows b before) l.spots) (held b before l.value)) l.off (env_of l.initial.at) at before new;
    }
