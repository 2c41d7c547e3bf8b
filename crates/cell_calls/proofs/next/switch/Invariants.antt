use Rattle.std.proofs.Common.{ℕ, ◌+◌, ◌-◌, List, length, drop}
use Rattle.vl_base.specs.declared.files.File.{File}
use Rattle.vl_design.specs.Functions.{scope_of}
use Rattle.vl_design.specs.Trees.{exp_of, flat_of}
use Rattle.vl_design.specs.Value.{value}
use Rattle.vl_design.specs.Width.{names_of}
use Rattle.cell_emit.specs.cell_form.specs.Views.{list_of}
use Rattle.cell_emit.specs.Slots.{Grows}
use Rattle.cell_emit.specs.Envs.{env_of, Fits, IsSlot}
use Rattle.cell_expr.specs.Compiled.{Holds}
use Rattle.cell_expr.specs.Counts.{exp_count, body_cells}
use Rattle.ten_form.specs.sub_nodes.specs.Cycles.{way_of}
use Rattle.cell_calls.specs.Next.{ways_view, ways_count}
use Rattle.cell_calls.proofs.next.switch.Given as goal

-- of the last ways so many are tried: the number of the first of them that matches, else the other one
abbrev pub invariant-loop-tried : goal.invariant-loop-tried
invariant-loop-tried l =
    let d = flat_of l.design in
    let names = names_of d in
    let first = list_of l.fn.cells in
    let now = list_of l.cells in
    let e = exp_of l.subject-2 in
    let left = ways_view (drop (length l.ways - l.tried) l.ways) in
    let n = exp_count (body_cells d) e + 1 + ways_count (body_cells d) left in
    record {
      grows : Grows first now;
      fits : Fits names now (env_of l.at);
      slot : IsSlot now l.subject l.c.width;
      subject : (files : List File) → Holds names n (env_of l.at) first now l.subject l.c.width (λ x. value (scope_of d files) x e l.c);
      next : (files : List File) → Holds names n (env_of l.at) first now l.next 32 (λ x. way_of (scope_of d files) x (value (scope_of d files) x e l.c) l.c left l.otherwise);
    }
