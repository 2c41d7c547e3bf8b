use Rattle.std.proofs.Common.{ℕ, List, drop}
use Rattle.vl_base.specs.declared.files.File.{File}
use Rattle.vl_design.specs.Sound.{AreSound}
use Rattle.vl_design.specs.Trees.{exps_of}
use Rattle.vl_run.specs.Cases.{AreWithin}
use Rattle.cell_emit.specs.cell_form.specs.Data.{ListData}
use Rattle.cell_emit.specs.cell_form.specs.Views.{list_of}
use Rattle.cell_emit.specs.Slots.{Grows}
use Rattle.cell_emit.specs.Cases.{Compares}
use Rattle.cell_emit.specs.Envs.{env_of, Fits, IsSlot}
use Rattle.cell_expr.specs.Contexts.{names_of, scope_of, body_of}
use Rattle.cell_expr.specs.Counts.{labels_count}
use Rattle.cell_expr.proofs.context.Context.labels_in.Given as goal

-- where the rest of the labels is compared, all are
abbrev pub invariant-loop-label : goal.invariant-loop-label
invariant-loop-label g l =
    let names = names_of l.self in
    let rest = exps_of (drop l.label-index l.labels) in
    let cells = list_of l.cells in
    record {
      grows : Grows (list_of l.initial.cells) cells;
      fits : Fits names cells (env_of l.at);
      subject : IsSlot cells l.subject l.c.width;
      path : IsSlot cells l.left 1;
      sound : AreSound names rest;
      within : AreWithin names l.c.width rest;
      leads : (files : List File) (r : ℕ) (new : ListData) → Compares names (labels_count (body_of l.self) rest) (scope_of l.self files) l.c l.subject rest l.left r (env_of l.at) cells new
          → Compares names (labels_count (body_of l.self) (exps_of l.labels)) (scope_of l.self files) l.c l.subject (exps_of l.labels) l.initial.left r (env_of l.at) (list_of l.initial.cells) new;
    }
